-- What waits from an honest process is due, and the first of it is no fault of its sender.
use Rattle.std.proofs.Common.{◌≡◌, ℕ, ◌+◌, ◌≤◌, ◌==◌, Bool, true, false, not, ◌&&◌, ◌||◌, if◌then◌else◌, None, Some, List, [], ◌∷◌, filter, refl, ap, sym, subst, ◌∙◌, eqb-true}
use Rattle.std.proofs.Math.Path.{fun_ext}
use Rattle.std.specs.Prelude.{is_none, unwrap_or, nat_lt, nat_le}
use Rattle.std.specs.List.{AllByRecursion, list_any}
use Rattle.fission_ids.specs.declared.context.ContextId.{ContextId}
use Rattle.fission_ids.specs.Ids.{same_context}
use Rattle.field_table.specs.declared.field.Field.{Field}
use Rattle.field_table.specs.declared.value.Value.{Value}
use Rattle.field_table.specs.declared.value.Value.TheVariants.{Flag}
use Rattle.field_table.specs.declared.verdict.Verdict.TheVariants.{Allow, Deny, Revert}
use Rattle.transaction.specs.Transaction.{Changes, new_value}
use Rattle.field_rules.specs.Rules.{Question, is_denied, rule, row, verdict}
use Rattle.field_rules.proofs.Verdicts.{both_denied}
use Rattle.wire_msgs.specs.declared.bundle.UpBundle.{UpBundle}
use Rattle.wire_msgs.specs.declared.config.Config.{Config}
use Rattle.wire_msgs.specs.declared.part.UpPart.{UpPart}
use Rattle.wire_msgs.specs.declared.part.UpPart.TheVariants as ups
use Rattle.protocol.specs.Bundle.{is_commit}
use Rattle.protocol.specs.Hear.{modified_fields, question_of, is_denial, denied_of, bounds_where, is_new_frame, may_be_dropped}
use Rattle.protocol.specs.OwnActs.{question_of_own, denied_to_process}
use Rattle.protocol.specs.Questions.{Facts, option_any, is_told, is_judged, is_owner}
use Rattle.protocol.specs.Seen.{Seen}
use Rattle.traces.specs.Links.{writes_waiting, is_ended}
use Rattle.traces.specs.Rules.{Flows, IsFirst}
use Rattle.traces.specs.Words.Stage.{Held}
use Rattle.trees.specs.Rules.{Keeps}
use Rattle.trees.specs.Words.{life, is_known}
use Rattle.trees.proofs.Dropping.{may_drop}
use Rattle.trees.proofs.Knowing.{good_ids}
use Rattle.model.specs.Lines.{Making, above_in}
use Rattle.model.specs.Moments.{Written, ProcessEvent}
use Rattle.model.specs.Moments.Written.{Own}
use Rattle.model.specs.Trees.{parts_create, parts_need, parts_drop, tree_look, tree_begin}
use Rattle.model.proofs.Cases.{both_true, true_false, same_itself}
use Rattle.model.proofs.Entry.{IsAck}
use Rattle.model.proofs.Fitting.{FactsTies}
use Rattle.model.proofs.Good.{IsDue, IsGood}
use Rattle.model.proofs.Good.IsGood.{GoodCreate, GoodDrop, GoodAcks, GoodCommit}
use Rattle.model.proofs.Lining.{Lined}
use Rattle.model.proofs.Living.{held_only}
use Rattle.model.proofs.TreeFacts.{TreeFacts}
use Rattle.model.proofs.TreeLawful.{lawful}

-- ---- what is denied, whenever it is asked

-- what is asked of a process's write of a field, as far as it never changes
abbrev pub fixed_question : List Making → ℕ → ContextId → Field → Value → Question
fixed_question mk p x fld v = record {
  field = fld;
  value = v;
  context = x;
  top = is_none (above_in mk x);
  window = None;
  from = Some (record { 0 = p });
  owner_is_sender = false;
}

-- the modified fields that the process may not write so
abbrev pub denied_ever : List Making → ℕ → ContextId → Changes → List Field
denied_ever mk p x t = filter (λ fld. is_denied (fixed_question mk p x fld (unwrap_or (new_value t fld) (Flag false)))) (modified_fields t)

-- what the process is denied of what it holds
pub denied_own : (mk : List Making) (p : ℕ) (s : Seen) (x : ContextId) (t : Changes) → s.above x ≡ above_in mk x → denied_to_process p s x t ≡ denied_ever mk p x t
denied_own mk p s x t up = ap (λ test. filter test (modified_fields t)) (fun_ext (λ fld. one fld (unwrap_or (new_value t fld) (Flag false))))
  where
    one : (fld : Field) (v : Value) → is_denied (question_of_own p s x fld v) ≡ is_denied (fixed_question mk p x fld v)
    one fld v = both_denied (question_of_own p s x fld v) (fixed_question mk p x fld v) (record {
      field = refl;
      value = refl;
      context = refl;
      top = ap is_none up;
      window = refl;
      from = refl;
    })

denial_is : (d a : Bool) → is_denial (if d then Deny else if a then Allow else Revert) ≡ d
denial_is true a = refl
denial_is false true = refl
denial_is false false = refl

-- what the parent denies of what it knows
pub denied_heard : (mk : List Making) (p : ℕ) (f : Facts) (allows : Field → Bool) (x : ContextId) (t : Changes) → f.contexts.above x ≡ above_in mk x → denied_of allows f p x t ≡ denied_ever mk p x t
denied_heard mk p f allows x t up = ap (λ test. filter test (modified_fields t)) (fun_ext (λ fld. one fld (unwrap_or (new_value t fld) (Flag false))))
  where
    one : (fld : Field) (v : Value) → is_denial (verdict (bounds_where (allows fld)) (question_of f p x fld v)) ≡ is_denied (fixed_question mk p x fld v)
    one fld v = denial_is (is_denied (question_of f p x fld v)) ((row (rule fld)).allows (bounds_where (allows fld)) (question_of f p x fld v))
        ∙ both_denied (question_of f p x fld v) (fixed_question mk p x fld v) (record {
          field = refl;
          value = refl;
          context = refl;
          top = ap is_none up;
          window = refl;
          from = refl;
        })

-- ---- what waits

-- what an honest process sends: a frame, a drop of what is below another, acknowledgements, or a commit of what it may write
pub data UpShape (c : Config) (p : ℕ) (mk : List Making) (b : UpBundle) : Type 0 where
  ShapedFrame : (x a : ContextId) → b.parts ≡ ups.Create x a ∷ [] → is_new_frame p x ≡ true → above_in mk x ≡ Some a → UpShape c p mk b
  ShapedDrop : (x a : ContextId) → b.parts ≡ ups.Drop x ∷ [] → above_in mk x ≡ Some a → UpShape c p mk b
  ShapedAcks : (a : UpPart) (parts : List UpPart) → b.parts ≡ a ∷ parts → AllByRecursion IsAck (a ∷ parts) → UpShape c p mk b
  ShapedCommit : (x : ContextId) (t : Changes) → b.parts ≡ ups.Commit x t ∷ [] → denied_ever mk p x t ≡ [] → UpShape c p mk b

-- it has a shape, and was made behind bundles that were sent
pub record UpFit (c : Config) (p : ℕ) (mk : List Making) (sent : ℕ) (b : UpBundle) : Type 0 where
  pub seen : b.seen ≤ sent
  pub shape : UpShape c p mk b

abbrev pub UpFits : Config → ℕ → List Making → ℕ → Written → Type 0
UpFits c p mk sent (Own b) = UpFit c p mk sent b
UpFits c p mk sent w = ⊥

-- how many commits a bundle has, at most one
abbrev pub one_commit : UpBundle → ℕ
one_commit b = if list_any is_commit b.parts then 1 else 0

-- the epochs of what waits go from what was heard to what was made
abbrev pub UpsDue : ℕ → ℕ → List Written → Type 0
UpsDue made n [] = made ≡ n
UpsDue made n (Own b ∷ ws) = (b.epoch.0 ≡ n + one_commit b) × UpsDue made (n + one_commit b) ws
UpsDue made n (w ∷ ws) = ⊥

pub record UpTies (c : Config) (p : ℕ) (mk : List Making) (f : Facts) (s : Seen) (h : List ProcessEvent) : Type 0 where
  pub due : UpsDue s.commits (f.processes.commits_heard p) (writes_waiting h)
  pub fit : AllByRecursion (UpFits c p mk (f.processes.bundles_sent p)) (writes_waiting h)
  pub few : s.frames_made ≤ 240

-- ---- the first of it

pub acks_count : (parts : List UpPart) → AllByRecursion IsAck parts → list_any is_commit parts ≡ false
acks_count [] all = refl
acks_count (ups.DropAck x ∷ parts) all = acks_count parts all.1
acks_count (_ ∷ parts) all = absurd all.0

or_is : (a b : Bool) → a ≡ true → (a || b) ≡ true
or_is a b e = ap (λ v. v || b) e

module _ (c : Config) (p : ℕ) (mk : List Making) (l : Lined mk) (f : Facts) (ft : FactsTies c.tabs mk f) (h : List ProcessEvent) (t : TreeFacts c p mk f h) (flows : Flows h) (runs : is_ended h ≡ false)
    (b : UpBundle) (rest : List Written) (waits : writes_waiting h ≡ Own b ∷ rest)
  where
    keeps : Keeps (tree_look c p mk) (tree_begin c p mk) h
    keeps = record { lawful = lawful c p mk l; flows = flows; fits = t.fits }

    first : IsFirst (Own b) (writes_waiting h)
    first = record { rest = rest; is = waits }

    -- what it makes isn't known
    makes_new : (x : ContextId) → x.creator ≡ p + 1 → parts_create x b.parts ≡ true → f.contexts.known x ≡ false
    makes_new x own e = by_known (f.contexts.known x) refl
      where
        unheard : is_known (tree_look c p mk) (tree_begin c p mk) x h ≡ false
        unheard = (good_ids (tree_look c p mk) (tree_begin c p mk) (Own b) h keeps runs first x).0 e

        by_known : (v : Bool) → f.contexts.known x ≡ v → f.contexts.known x ≡ false
        by_known false is = is
        by_known true is = true_false (is_known (tree_look c p mk) (tree_begin c p mk) x h) (t.own_known x own is) unheard

    -- what else it names is
    names_known : (x : ContextId) → parts_need x b.parts ≡ true → f.contexts.known x ≡ true
    names_known x e = t.known x ((good_ids (tree_look c p mk) (tree_begin c p mk) (Own b) h keeps runs first x).1 e)

    -- what it drops is discarded already, or below what it owns
    drops_well : (x a : ContextId) → above_in mk x ≡ Some a → parts_drop x b.parts ≡ true → f.contexts.known x ≡ true → may_be_dropped f p x ≡ true
    drops_well x a up e known =
        ap (option_any (λ above. not (f.contexts.live x) || is_owner f p above)) (ft.known_above x known ∙ up) ∙ by_live (f.contexts.live x) refl
      where
        by_live : (v : Bool) → f.contexts.live x ≡ v → (not (f.contexts.live x) || is_owner f p a) ≡ true
        by_live false is = ap (λ v. not v || is_owner f p a) is
        by_live true is =
            let held : life (tree_look c p mk) (tree_begin c p mk) x h ≡ Held = held_only (life (tree_look c p mk) (tree_begin c p mk) x h) (t.lives.live x ∙ is) in
            let owner : is_owner f p a ≡ true = sym (t.owners a (ft.above_live x a is up))
            ∙ may_drop (tree_look c p mk) (tree_begin c p mk) (Own b) h keeps runs first x a e up held in
            ap (λ v. not v || is_owner f p a) is ∙ owner

    creator_of : (x : ContextId) → is_new_frame p x ≡ true → x.creator ≡ p + 1
    creator_of x e = eqb-true x.creator (p + 1) (first_of_three (x.creator == p + 1) (nat_lt 0 x.serial) (nat_le x.serial 240) e)
      where
        first_of_three : (u v w : Bool) → (u && v && w) ≡ true → u ≡ true
        first_of_three true v w e = refl
        first_of_three false v w e = absurd cc

    with_shape : (s : Seen) → UpsDue s.commits (f.processes.commits_heard p) (Own b ∷ rest) → b.seen ≤ f.processes.bundles_sent p → UpShape c p mk b → IsGood f p b
    with_shape s due seen shape = by_shape shape
      where
        due_by : (n : ℕ) → one_commit b ≡ n → IsDue f p n b
        due_by n e = record { epoch = due.0 ∙ ap (λ k. f.processes.commits_heard p + k) e; seen = seen }

        due_of : (parts : List UpPart) → b.parts ≡ parts → IsDue f p (if list_any is_commit parts then 1 else 0) b
        due_of parts is = due_by (if list_any is_commit parts then 1 else 0) (ap (λ (ps : List UpPart). if list_any is_commit ps then 1 else 0) is)

        by_shape : UpShape c p mk b → IsGood f p b
        by_shape (ShapedFrame x a is frame up) = GoodCreate x a is (due_of (ups.Create x a ∷ []) is) frame
            (makes_new x (creator_of x frame) (ap (parts_create x) is ∙ or_is (same_context x x) false (same_itself x)))
            (names_known a (ap (parts_need a) is ∙ or_is (same_context a a) (not (same_context a x) && false) (same_itself a)))
        by_shape (ShapedDrop x a is up) =
            let known : f.contexts.known x ≡ true = names_known x (ap (parts_need x) is ∙ or_is (same_context x x) false (same_itself x)) in
            GoodDrop x is (due_of (ups.Drop x ∷ []) is) known (drops_well x a up (ap (parts_drop x) is ∙ or_is (same_context x x) false (same_itself x)) known)
        by_shape (ShapedAcks a parts is all) = GoodAcks a parts is all (due_by 0 (ap (λ (ps : List UpPart). if list_any is_commit ps then 1 else 0) is ∙ ap (λ (v : Bool). if v then 1 else 0) (acks_count (a ∷ parts) all)))
        by_shape (ShapedCommit x t is allowed) = GoodCommit x t is (due_of (ups.Commit x t ∷ []) is) judged
          where
            judged : is_judged f p x ≡ true → (allows : Field → Bool) → denied_of allows f p x t ≡ []
            judged e allows = denied_heard mk p f allows x t (ft.known_above x (ft.live_known x (both_true (f.contexts.live x) (is_told f p x) e).0)) ∙ allowed

    -- what waits first is no fault of its sender
    pub first_good : (s : Seen) → UpTies c p mk f s h → IsGood f p b
    first_good s u =
        let fit : AllByRecursion (UpFits c p mk (f.processes.bundles_sent p)) (Own b ∷ rest) = subst (AllByRecursion (UpFits c p mk (f.processes.bundles_sent p))) waits u.fit in
        with_shape s (subst (UpsDue s.commits (f.processes.commits_heard p)) waits u.due) fit.0.seen fit.0.shape
