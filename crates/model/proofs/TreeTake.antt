-- What a process takes keeps what it answers of the trees: what is told of comes where the context above is held, and
-- what goes takes all below it.
use Rattle.std.proofs.Common.{◌≡◌, ◌⊎◌, inl, inr, ℕ, ◌+◌, ◌<◌, ◌≤◌, ◌==◌, Bool, true, false, not, ◌&&◌, if◌then◌else◌, Option, None, Some, List, [], ◌∷◌, refl, ap, ap₂, sym, subst, ◌∙◌, arith, eq-eqb}
use Rattle.std.specs.List.{AllByRecursion}
use Rattle.fission_ids.specs.declared.context.ContextId.{ContextId}
use Rattle.fission_ids.specs.Ids.{same_context}
use Rattle.wire_msgs.specs.declared.bundle.DownBundle.{DownBundle}
use Rattle.wire_msgs.specs.declared.config.Config.{Config}
use Rattle.wire_msgs.specs.declared.part.DownPart.{DownPart}
use Rattle.wire_msgs.specs.declared.part.DownPart.TheVariants as downs
use Rattle.wire_msgs.specs.declared.part.Known.{Known}
use Rattle.transaction.specs.Transaction.{Changes}
use Rattle.wire_msgs.specs.declared.note.PartNote.TheVariants as notes
use Rattle.protocol.specs.Fold.{after_part, after_parts, behind_all}
use Rattle.protocol.specs.Hear.{changes_where, is_noted, is_applied}
use Rattle.protocol.specs.Questions.{option_any}
use Rattle.protocol.specs.Seen.{Seen}
use Rattle.protocol.specs.Seen.Doing.{Came, Went, Given, Stopped}
use Rattle.protocol.specs.SeenAfter.{seen_after, with_context}
use Rattle.protocol.specs.Take.{take_rules, may_come, option_all, taken_notes}
use Rattle.protocol.specs.Take as take
use Rattle.traces.specs.Event.{Bundle}
use Rattle.traces.specs.Event.Event.{Takes}
use Rattle.traces.specs.Links.{is_ended, bundles_waiting}
use Rattle.traces.specs.Rules.{IsFirst, Flows}
use Rattle.traces.specs.Words.{Stage}
use Rattle.traces.specs.Words.Stage.{Coming, Held, Gone}
use Rattle.trees.specs.Children.{owns}
use Rattle.trees.specs.Look.{Effect, Handing, moved, owned_behind, Look, Begin}
use Rattle.trees.specs.Look.Effect.{Stays, Comes, Goes}
use Rattle.trees.specs.Look.Handing.{Same, Given as HandGiven, Taken}
use Rattle.trees.specs.Rules.{Above, told_owner, Keeps}
use Rattle.trees.specs.Words.{stage, is_held}
use Rattle.trees.proofs.Effects.{gone_behind, gone_before}
use Rattle.trees.proofs.Taking.{comings_below, first_new}
use Rattle.field_table.specs.Table.{value_in}
use Rattle.model.specs.Lines.{Making, line, above_in, is_among}
use Rattle.model.specs.Moments.{Written, ProcessEvent}
use Rattle.model.specs.View.{singles}
use Rattle.model.specs.Trees.{comes_if, goes_if, both, later_hand, hand_if, parts_tell, parts_handed, handed_unless, tree_look, tree_begin}
use Rattle.model.proofs.Arranging.{come_all, ComeFirst}
use Rattle.model.proofs.Cases.{true_false, same_context_is, same_itself, same_swapped}
use Rattle.model.proofs.DownFits.{ComingFits, IsApart, ComeApart, DownFits}
use Rattle.model.proofs.Holding.{SeenTies, seen_still}
use Rattle.model.proofs.Lining.{Lined, longer}
use Rattle.model.proofs.Living.{both_moved, both_goes, both_swapped, goes_later, goes_when, in_line}
use Rattle.model.proofs.Owning.{later_owned}
use Rattle.model.proofs.SingleFits.{SingleFits, singles_fit}
use Rattle.model.proofs.Singles.{taken_single}
use Rattle.model.proofs.TreeLawful.{lawful, downs_below}
use Rattle.model.proofs.TreeOwn.{IsUnmade, TreeSeen}

-- ---- parts, one after the other

-- what a process answers behind a part, and behind all
abbrev pub behind_part : ℕ → ℕ → DownPart → Seen → Seen
behind_part p epoch a s = after_part (take_rules p epoch) (λ s. s) (seen_after p) a s

abbrev pub behind_parts : ℕ → ℕ → Seen → List DownPart → Seen
behind_parts p epoch s parts = after_parts (take_rules p epoch) (λ s. s) (seen_after p) s parts

pub come_is : (p epoch : ℕ) (k : Known) (s : Seen) → behind_part p epoch (downs.Create k) s ≡ seen_after p (Came k) s
unfolding behind_all take.says
come_is p epoch k s = refl

pub discard_is : (p epoch : ℕ) (w : ContextId) (s : Seen) → behind_part p epoch (downs.Discard w) s ≡ seen_after p (Went w) s
unfolding behind_all take.says
discard_is p epoch w s = refl

-- behind a part of no tree the same is held and owned
pub record TreesKept (p : ℕ) (s s' : Seen) : Type 0 where
  pub holds : (x : ContextId) → s'.holds x ≡ s.holds x
  pub owns : (x : ContextId) → s'.owns x ≡ s.owns x

-- ---- what a part does to a context

abbrev pub one_tell : List Making → ContextId → DownPart → Effect
one_tell mk x (downs.Create k) = comes_if (same_context x k.context)
one_tell mk x (downs.Discard w) = goes_if (is_among w (line x mk))
one_tell mk x _ = Stays

abbrev pub one_hand : ContextId → DownPart → Handing
one_hand x (downs.Create k) = hand_if (same_context x k.context) (told_owner k.owned)
one_hand x _ = Same

tell_more : (mk : List Making) (x : ContextId) (a : DownPart) (post : List DownPart) → parts_tell x (line x mk) (a ∷ post) ≡ both (one_tell mk x a) (parts_tell x (line x mk) post)
tell_more mk x (downs.Create k) post = refl
tell_more mk x (downs.Discard w) post = refl
tell_more mk x (_) post = refl

hand_none : (h : Handing) → h ≡ later_hand h Same
hand_none Same = refl
hand_none HandGiven = refl
hand_none Taken = refl

handed_more : (x : ContextId) (a : DownPart) (post : List DownPart) → parts_handed x (a ∷ post) ≡ later_hand (parts_handed x post) (one_hand x a)
handed_more x (downs.Create k) post = refl
handed_more x (_) post = hand_none (parts_handed x post)

comes_unless : (a : Effect) → (a ≡ Goes → ⊥) → both Comes a ≡ Comes
comes_unless Stays other = refl
comes_unless Comes other = refl
comes_unless Goes other = absurd (other refl)

-- what isn't brought doesn't come
pub unbrought : (z : ContextId) (ln : List ContextId) (post : List DownPart) → AllByRecursion (λ j. same_context j.context z ≡ false) (come_all post) → parts_tell z ln post ≡ Comes → ⊥
unbrought z ln [] none e = absurd cc
unbrought z ln (downs.Create k ∷ post) none e = unbrought z ln post none.1 (sym (ap (λ b. both (comes_if b) (parts_tell z ln post)) (same_swapped z k.context ∙ none.0)) ∙ e)
unbrought z ln (downs.Discard w ∷ post) none e = by_test (is_among w ln) e (unbrought z ln post none)
  where
    by_test : (b : Bool) → both (goes_if b) (parts_tell z ln post) ≡ Comes → (parts_tell z ln post ≡ Comes → ⊥) → ⊥
    by_test true e rest = absurd cc
    by_test false e rest = rest e
unbrought z ln (_ ∷ post) none e = unbrought z ln post none e

not_held : (s : Stage) → (s ≡ Held → ⊥) → is_held s ≡ false
not_held Coming e = refl
not_held Held e = absurd (e refl)
not_held Gone e = refl

-- what an effect and a later one do together
together : (a b : Effect) (s : Stage) → moved b (moved a s) ≡ moved (both a b) s
together a b s = sym (both_moved b a s) ∙ ap (λ e. moved e s) (both_swapped b a)

-- ---- in the middle of a bundle

module _ (c : Config) (p : ℕ) (mk : List Making) (l : Lined mk) where
  -- where a coming is told of, the process doesn't hold it, and the context above is held by then unless it is gone
  pub record MayCome (L : ContextId → Stage) (post : List DownPart) (x y : ContextId) : Type 0 where
    pub unheld : L x ≡ Held → ⊥
    pub new : L x ≡ Coming → moved (parts_tell y (line y mk) post) (L y) ≡ Held
    pub gone : L x ≡ Gone → moved (parts_tell y (line y mk) post) (L y) ≡ Held → ⊥

  -- what the process answers of what these parts leave there is what the stages and owners say
  pub record TakeSo (s : Seen) (L : ContextId → Stage) (O : ContextId → Bool) (post : List DownPart) : Type 0 where
    pub ties : SeenTies c.tabs p mk s
    pub stages : (x : ContextId) → (parts_tell x (line x mk) post ≡ Goes → ⊥) → is_held (L x) ≡ s.holds x
    pub owners : (x : ContextId) → (parts_tell x (line x mk) post ≡ Goes → ⊥) → s.holds x ≡ true → s.owns x ≡ O x
    pub coming : (x y : ContextId) → (x.creator == p + 1) ≡ false → above_in mk x ≡ Some y → parts_tell x (line x mk) post ≡ Comes → MayCome L post x y
    pub coming_top : (x : ContextId) → (x.creator == p + 1) ≡ false → above_in mk x ≡ None → parts_tell x (line x mk) post ≡ Comes → L x ≡ Coming

  -- ---- a context comes

  module _ (s : Seen) (L : ContextId → Stage) (O : ContextId → Bool) (k : Known) (post : List DownPart) (fits : ComingFits c p mk k) (apart : AllByRecursion (IsApart k) (come_all post)) (t : TakeSo s L O (downs.Create k ∷ post)) where
    others_of : (ks : List Known) → AllByRecursion (IsApart k) ks → AllByRecursion (λ j. same_context j.context k.context ≡ false) ks
    others_of [] all = tt
    others_of (j ∷ ks) all = (all.0.other, others_of ks all.1)

    tell_k : (parts_tell k.context (line k.context mk) post ≡ Goes → ⊥) → parts_tell k.context (line k.context mk) (downs.Create k ∷ post) ≡ Comes
    tell_k stays = ap (λ b. both (comes_if b) (parts_tell k.context (line k.context mk) post)) (same_itself k.context) ∙ comes_unless (parts_tell k.context (line k.context mk) post) stays

    unheld_k : (parts_tell k.context (line k.context mk) post ≡ Goes → ⊥) → (L k.context ≡ Held → ⊥) → s.holds k.context ≡ false
    unheld_k stays unheld = sym (t.stages k.context (λ goes. let two : Comes ≡ Goes = sym (tell_k stays) ∙ goes in absurd cc)) ∙ not_held (L k.context) unheld

    -- it may come if what is above it is held
    may_is : (o : Option ContextId) (v : Bool) → s.holds k.context ≡ false → k.parent ≡ o → option_all s.holds o ≡ v → may_come p s k ≡ v
    may_is o v unheld up e = ap₂ (λ a b. not a && not b && option_all s.holds k.parent) unheld fits.others ∙ ap (option_all s.holds) up ∙ e

    -- where it comes to be held, and where it doesn't
    data Arrival : Type 0 where
      Arrives : L k.context ≡ Coming → may_come p s k ≡ true → Arrival
      IsLost : L k.context ≡ Gone → may_come p s k ≡ false → s.holds k.context ≡ false → Arrival

    -- with nothing above it, it comes
    arrival_top : (parts_tell k.context (line k.context mk) post ≡ Goes → ⊥) → above_in mk k.context ≡ None → Arrival
    arrival_top stays top =
        let new : L k.context ≡ Coming = t.coming_top k.context fits.others top (tell_k stays) in
        Arrives new (may_is None true (unheld_k stays (λ held. let two : Coming ≡ Held = sym new ∙ held in absurd cc)) (fits.known.above ∙ top) refl)

    -- below another it comes unless it is gone
    arrival_below : (parts_tell k.context (line k.context mk) post ≡ Goes → ⊥) → (y : ContextId) → above_in mk k.context ≡ Some y → Arrival
    arrival_below stays y up = by_stage (L k.context) refl
      where
        parent_is : k.parent ≡ Some y
        parent_is = fits.known.above ∙ up

        above_of : (ks : List Known) → AllByRecursion (IsApart k) ks → AllByRecursion (λ j. same_context j.context y ≡ false) ks
        above_of [] all = tt
        above_of (j ∷ ks) all = (sym (ap (option_any (same_context j.context)) parent_is) ∙ all.0.not_above, above_of ks all.1)

        -- it isn't the one above itself
        y_other : same_context y k.context ≡ false
        y_other = longer k.context y mk (l.line_step k.context y up)

        tell_y : parts_tell y (line y mk) (downs.Create k ∷ post) ≡ parts_tell y (line y mk) post
        tell_y = ap (λ b. both (comes_if b) (parts_tell y (line y mk) post)) y_other

        come : MayCome L (downs.Create k ∷ post) k.context y
        come = t.coming k.context y fits.others up (tell_k stays)

        -- what is above neither comes nor goes by what is left
        y_stays : parts_tell y (line y mk) post ≡ Stays
        y_stays = by_effect (parts_tell y (line y mk) post) refl
          where
            by_effect : (e : Effect) → parts_tell y (line y mk) post ≡ e → parts_tell y (line y mk) post ≡ Stays
            by_effect Stays is = is
            by_effect Comes is = absurd (unbrought y (line y mk) post (above_of (come_all post) apart) is)
            by_effect Goes is = absurd (stays (downs_below c p mk l k.context y post up is))

        y_moved : moved (parts_tell y (line y mk) (downs.Create k ∷ post)) (L y) ≡ L y
        y_moved = ap (λ e. moved e (L y)) (tell_y ∙ y_stays)

        y_held : is_held (L y) ≡ s.holds y
        y_held = t.stages y (λ goes. let two : Stays ≡ Goes = sym (tell_y ∙ y_stays) ∙ goes in absurd cc)

        by_stage : (v : Stage) → L k.context ≡ v → Arrival
        by_stage Coming is = Arrives is (may_is (Some y) true (unheld_k stays come.unheld) parent_is (sym y_held ∙ ap is_held (sym y_moved ∙ come.new is)))
        by_stage Held is = absurd (come.unheld is)
        by_stage Gone is = IsLost is (may_is (Some y) false (unheld_k stays come.unheld) parent_is (sym y_held ∙ not_held (L y) (λ held. come.gone is (y_moved ∙ held)))) (unheld_k stays come.unheld)

    arrival : (parts_tell k.context (line k.context mk) post ≡ Goes → ⊥) → Arrival
    arrival stays = by_above (above_in mk k.context) refl
      where
        by_above : (o : Option ContextId) → above_in mk k.context ≡ o → Arrival
        by_above None top = arrival_top stays top
        by_above (Some y) up = arrival_below stays y up

    -- what is told of another context
    tell_other : (x : ContextId) → same_context x k.context ≡ false → parts_tell x (line x mk) (downs.Create k ∷ post) ≡ parts_tell x (line x mk) post
    tell_other x other = ap (λ b. both (comes_if b) (parts_tell x (line x mk) post)) other

    came_holds : (x : ContextId) → (seen_after p (Came k) s).holds x ≡ (if may_come p s k then if same_context x k.context then true else s.holds x else s.holds x)
    unfolding seen_after
    came_holds x = by_may (may_come p s k)
      where
        by_may : (v : Bool) → (if v then with_context k.context (Some k.group) k.parent k.owned (value_in k.fields) s else s).holds x ≡ (if v then if same_context x k.context then true else s.holds x else s.holds x)
        by_may true = refl
        by_may false = refl

    came_owns : (x : ContextId) → (seen_after p (Came k) s).owns x ≡ (if may_come p s k then if same_context x k.context then k.owned else s.owns x else s.owns x)
    unfolding seen_after
    came_owns x = by_may (may_come p s k)
      where
        by_may : (v : Bool) → (if v then with_context k.context (Some k.group) k.parent k.owned (value_in k.fields) s else s).owns x ≡ (if v then if same_context x k.context then k.owned else s.owns x else s.owns x)
        by_may true = refl
        by_may false = refl

    either : {A : Type 0} (v : Bool) (a : A) → (if v then a else a) ≡ a
    either true a = refl
    either false a = refl

    come_step : TakeSo (seen_after p (Came k) s) (λ x. moved (one_tell mk x (downs.Create k)) (L x)) (λ x. owned_behind (one_hand x (downs.Create k)) (O x)) post
    come_step = record {
      ties = seen_still c.tabs p mk s (Came k) l fits.known t.ties;
      stages = stages_now;
      owners = owners_now;
      coming = λ x z others up comes. coming_now x z others up comes (same_context x k.context) refl;
      coming_top = λ x others top comes. top_now x others top comes (same_context x k.context) refl;
    }
      where
        stages_now : (x : ContextId) → (parts_tell x (line x mk) post ≡ Goes → ⊥) → is_held (moved (comes_if (same_context x k.context)) (L x)) ≡ (seen_after p (Came k) s).holds x
        stages_now x stays = by_same (same_context x k.context) refl ∙ sym (came_holds x)
          where
            by_arrival : x ≡ k.context → Arrival → is_held (moved Comes (L x)) ≡ (if may_come p s k then true else s.holds x)
            by_arrival same (Arrives new may) = ap (λ z. is_held (moved Comes (L z))) same ∙ ap (λ v. is_held (moved Comes v)) new ∙ sym (ap (λ (b : Bool). if b then true else s.holds x) may)
            by_arrival same (IsLost gone may unheld) = ap (λ z. is_held (moved Comes (L z))) same ∙ ap (λ v. is_held (moved Comes v)) gone ∙ sym (ap (λ (b : Bool). if b then true else s.holds x) may ∙ ap s.holds same ∙ unheld)

            by_same : (v : Bool) → same_context x k.context ≡ v → is_held (moved (comes_if v) (L x)) ≡ (if may_come p s k then if v then true else s.holds x else s.holds x)
            by_same true is = let same : x ≡ k.context = same_context_is x k.context is in by_arrival same (arrival (λ goes. stays (ap (λ z. parts_tell z (line z mk) post) same ∙ goes)))
            by_same false isnt = t.stages x (λ goes. stays (sym (tell_other x isnt) ∙ goes)) ∙ sym (either (may_come p s k) (s.holds x))

        owners_now : (x : ContextId) → (parts_tell x (line x mk) post ≡ Goes → ⊥) → (seen_after p (Came k) s).holds x ≡ true
            → (seen_after p (Came k) s).owns x ≡ owned_behind (hand_if (same_context x k.context) (told_owner k.owned)) (O x)
        owners_now x stays held = came_owns x ∙ by_same (same_context x k.context) refl (sym (came_holds x) ∙ held)
          where
            owner_is : (b o : Bool) → b ≡ owned_behind (told_owner b) o
            owner_is true o = refl
            owner_is false o = refl

            by_arrival : x ≡ k.context → Arrival → (if may_come p s k then true else s.holds x) ≡ true → (if may_come p s k then k.owned else s.owns x) ≡ owned_behind (told_owner k.owned) (O x)
            by_arrival same (Arrives new may) on = ap (λ (b : Bool). if b then k.owned else s.owns x) may ∙ owner_is k.owned (O x)
            by_arrival same (IsLost gone may unheld) on = true_false (s.holds x) (sym (ap (λ (b : Bool). if b then true else s.holds x) may) ∙ on) (ap s.holds same ∙ unheld)

            by_same : (v : Bool) → same_context x k.context ≡ v → (if may_come p s k then if v then true else s.holds x else s.holds x) ≡ true
                → (if may_come p s k then if v then k.owned else s.owns x else s.owns x) ≡ owned_behind (hand_if v (told_owner k.owned)) (O x)
            by_same true is on = let same : x ≡ k.context = same_context_is x k.context is in by_arrival same (arrival (λ goes. stays (ap (λ z. parts_tell z (line z mk) post) same ∙ goes))) on
            by_same false isnt on = either (may_come p s k) (s.owns x) ∙ t.owners x (λ goes. stays (sym (tell_other x isnt) ∙ goes)) (sym (either (may_come p s k) (s.holds x)) ∙ on)

        coming_now : (x z : ContextId) → (x.creator == p + 1) ≡ false → above_in mk x ≡ Some z → parts_tell x (line x mk) post ≡ Comes
            → (v : Bool) → same_context x k.context ≡ v → MayCome (λ w. moved (one_tell mk w (downs.Create k)) (L w)) post x z
        coming_now x z others up comes true is =
            absurd (unbrought k.context (line k.context mk) post (others_of (come_all post) apart) (ap (λ w. parts_tell w (line w mk) post) (sym (same_context_is x k.context is)) ∙ comes))
        coming_now x z others up comes false isnt =
            let come : MayCome L (downs.Create k ∷ post) x z = t.coming x z others up (tell_other x isnt ∙ comes) in
            let same_x : moved (comes_if (same_context x k.context)) (L x) ≡ L x = ap (λ b. moved (comes_if b) (L x)) isnt in
            let same_z : moved (parts_tell z (line z mk) post) (moved (comes_if (same_context z k.context)) (L z)) ≡ moved (parts_tell z (line z mk) (downs.Create k ∷ post)) (L z) =
            together (comes_if (same_context z k.context)) (parts_tell z (line z mk) post) (L z) in
            record {
              unheld = λ e. come.unheld (sym same_x ∙ e);
              new = λ e. same_z ∙ come.new (sym same_x ∙ e);
              gone = λ e held. come.gone (sym same_x ∙ e) (sym same_z ∙ held);
            }

        top_now : (x : ContextId) → (x.creator == p + 1) ≡ false → above_in mk x ≡ None → parts_tell x (line x mk) post ≡ Comes → (v : Bool) → same_context x k.context ≡ v → moved (comes_if (same_context x k.context)) (L x) ≡ Coming
        top_now x others top comes true is =
            absurd (unbrought k.context (line k.context mk) post (others_of (come_all post) apart) (ap (λ w. parts_tell w (line w mk) post) (sym (same_context_is x k.context is)) ∙ comes))
        top_now x others top comes false isnt = ap (λ b. moved (comes_if b) (L x)) isnt ∙ t.coming_top x others top (tell_other x isnt ∙ comes)

  -- ---- a context goes

  module _ (s : Seen) (L : ContextId → Stage) (O : ContextId → Bool) (w : ContextId) (post : List DownPart) (none : come_all post ≡ []) (t : TakeSo s L O (downs.Discard w ∷ post)) where
    never_comes : (x : ContextId) → parts_tell x (line x mk) post ≡ Comes → ⊥
    never_comes x e = unbrought x (line x mk) post (subst (AllByRecursion (λ (j : Known). same_context j.context x ≡ false)) (sym none) tt) e

    tell_out : (x : ContextId) → is_among w (line x mk) ≡ false → parts_tell x (line x mk) (downs.Discard w ∷ post) ≡ parts_tell x (line x mk) post
    tell_out x out = ap (λ b. both (goes_if b) (parts_tell x (line x mk) post)) out

    under_is : (x : ContextId) → (if s.under x w then false else s.holds x) ≡ (if is_among w (line x mk) then false else s.holds x)
    under_is x = by_held (s.holds x) refl
      where
        either_way : (v : Bool) → false ≡ (if v then false else false)
        either_way true = refl
        either_way false = refl

        by_held : (v : Bool) → s.holds x ≡ v → (if s.under x w then false else s.holds x) ≡ (if is_among w (line x mk) then false else s.holds x)
        by_held true on = ap (λ (b : Bool). if b then false else s.holds x) (t.ties.held_under x w on)
        by_held false off = ap (λ (b : Bool). if b then false else s.holds x) (t.ties.unheld_under x w off) ∙ off ∙ either_way (is_among w (line x mk)) ∙ sym (ap (λ (b : Bool). if is_among w (line x mk) then false else b) off)

    go_step : TakeSo (seen_after p (Went w) s) (λ x. moved (one_tell mk x (downs.Discard w)) (L x)) (λ x. owned_behind (one_hand x (downs.Discard w)) (O x)) post
    unfolding seen_after
    go_step = record {
      ties = seen_still c.tabs p mk s (Went w) l tt t.ties;
      stages = λ x stays. by_line x stays (is_among w (line x mk)) refl ∙ sym (under_is x);
      owners = λ x stays held. by_owner x stays (is_among w (line x mk)) refl (sym (under_is x) ∙ held) (left (s.under x w) (s.holds x) held);
      coming = λ x z others up comes. absurd (never_comes x comes);
      coming_top = λ x others top comes. absurd (never_comes x comes);
    }
      where
        by_line : (x : ContextId) → (parts_tell x (line x mk) post ≡ Goes → ⊥) → (v : Bool) → is_among w (line x mk) ≡ v → is_held (moved (goes_if v) (L x)) ≡ (if v then false else s.holds x)
        by_line x stays true is = refl
        by_line x stays false out = t.stages x (λ goes. stays (sym (tell_out x out) ∙ goes))

        left : (u v : Bool) → (if u then false else v) ≡ true → u ≡ false
        left true v e = absurd cc
        left false v e = refl

        by_owner : (x : ContextId) → (parts_tell x (line x mk) post ≡ Goes → ⊥) → (v : Bool) → is_among w (line x mk) ≡ v → (if v then false else s.holds x) ≡ true
            → s.under x w ≡ false → (if s.under x w then false else s.owns x) ≡ O x
        by_owner x stays true is on outside = absurd cc
        by_owner x stays false out on outside = ap (λ (b : Bool). if b then false else s.owns x) outside ∙ t.owners x (λ goes. stays (sym (tell_out x out) ∙ goes)) on

  -- ---- a part of no tree

  -- what is answered alike is told alike
  still_so : (s s' : Seen) (L : ContextId → Stage) (O : ContextId → Bool) (post : List DownPart) → TreesKept p s s' → SeenTies c.tabs p mk s' → TakeSo s L O post → TakeSo s' L O post
  still_so s s' L O post kept ties t = record {
    ties = ties;
    stages = λ x stays. t.stages x stays ∙ sym (kept.holds x);
    owners = λ x stays held. kept.owns x ∙ t.owners x stays (sym (kept.holds x) ∙ held);
    coming = t.coming;
    coming_top = t.coming_top;
  }

  given_step : (epoch : ℕ) (s : Seen) (x : ContextId) (d : Changes) → SeenTies c.tabs p mk s → TreesKept p s (behind_part p epoch (downs.Commit x d) s) × SeenTies c.tabs p mk (behind_part p epoch (downs.Commit x d) s)
  unfolding behind_all take.says take.note seen_after
  given_step epoch s x d ties = by_held (s.holds x)
    where
      by_held : (v : Bool) → TreesKept p s (behind_all (seen_after p) (take.says (downs.Commit x d) (if v then notes.Commit x (taken_notes epoch s x d) else notes.CommitIgnored x)) s)
          × SeenTies c.tabs p mk (behind_all (seen_after p) (take.says (downs.Commit x d) (if v then notes.Commit x (taken_notes epoch s x d) else notes.CommitIgnored x)) s)
      by_held true = (record { holds = λ y. refl; owns = λ y. refl }, seen_still c.tabs p mk s (Given x (changes_where (is_noted is_applied (taken_notes epoch s x d)) d)) l tt ties)
      by_held false = (record { holds = λ y. refl; owns = λ y. refl }, ties)

  kill_step : (epoch : ℕ) (s : Seen) → SeenTies c.tabs p mk s → TreesKept p s (behind_part p epoch downs.Kill s) × SeenTies c.tabs p mk (behind_part p epoch downs.Kill s)
  unfolding behind_all take.says take.note seen_after
  kill_step epoch s ties = (record { holds = λ y. refl; owns = λ y. refl }, seen_still c.tabs p mk s Stopped l tt ties)

  -- ---- all parts of a bundle

  so_together : (s : Seen) (L : ContextId → Stage) (O : ContextId → Bool) (a : DownPart) (post : List DownPart)
      → TakeSo s (λ x. moved (parts_tell x (line x mk) post) (moved (one_tell mk x a) (L x))) (λ x. owned_behind (parts_handed x post) (owned_behind (one_hand x a) (O x))) []
      → TakeSo s (λ x. moved (parts_tell x (line x mk) (a ∷ post)) (L x)) (λ x. owned_behind (parts_handed x (a ∷ post)) (O x)) []
  so_together s L O a post t = record {
    ties = t.ties;
    stages = λ x stays. ap is_held (ap (λ e. moved e (L x)) (tell_more mk x a post) ∙ sym (together (one_tell mk x a) (parts_tell x (line x mk) post) (L x))) ∙ t.stages x stays;
    owners = λ x stays held. t.owners x stays held ∙ sym (later_owned (parts_handed x post) (one_hand x a) (O x)) ∙ sym (ap (λ h. owned_behind h (O x)) (handed_more x a post));
    coming = λ x z others up comes. absurd (stays_never comes);
    coming_top = λ x others top comes. absurd (stays_never comes);
  }
    where
      stays_never : Stays ≡ Comes → ⊥
      stays_never e = absurd cc

  pub take_so : (epoch : ℕ) (made : ℕ) (s : Seen) (L : ContextId → Stage) (O : ContextId → Bool) (parts : List DownPart) → ComeFirst parts → AllByRecursion (ComingFits c p mk) (come_all parts) → ComeApart (come_all parts)
      → AllByRecursion (SingleFits p made) parts → TakeSo s L O parts
      → TakeSo (behind_parts p epoch s parts) (λ x. moved (parts_tell x (line x mk) parts) (L x)) (λ x. owned_behind (parts_handed x parts) (O x)) []
  unfolding after_parts
  take_so epoch made s L O [] first come apart kinds t = t
  take_so epoch made s L O (downs.Create k ∷ post) first come apart kinds t =
      so_together (behind_parts p epoch (behind_part p epoch (downs.Create k) s) post) L O (downs.Create k) post
      (take_so epoch made (behind_part p epoch (downs.Create k) s) (λ x. moved (one_tell mk x (downs.Create k)) (L x)) (λ x. owned_behind (one_hand x (downs.Create k)) (O x)) post first.1 come.1 apart.1 kinds.1
      (subst (λ u. TakeSo u (λ x. moved (one_tell mk x (downs.Create k)) (L x)) (λ x. owned_behind (one_hand x (downs.Create k)) (O x)) post) (sym (come_is p epoch k s)) (come_step s L O k post come.0 apart.0 t)))
  take_so epoch made s L O (downs.Discard w ∷ post) first come apart kinds t =
      so_together (behind_parts p epoch (behind_part p epoch (downs.Discard w) s) post) L O (downs.Discard w) post
      (take_so epoch made (behind_part p epoch (downs.Discard w) s) (λ x. moved (one_tell mk x (downs.Discard w)) (L x)) (λ x. owned_behind (one_hand x (downs.Discard w)) (O x)) post first.1 come apart kinds.1
      (subst (λ u. TakeSo u (λ x. moved (one_tell mk x (downs.Discard w)) (L x)) (λ x. owned_behind (one_hand x (downs.Discard w)) (O x)) post) (sym (discard_is p epoch w s)) (go_step s L O w post (first.0 refl) t)))
  take_so epoch made s L O (downs.Commit named d ∷ post) first come apart kinds t =
      let g : TreesKept p s (behind_part p epoch (downs.Commit named d) s) × SeenTies c.tabs p mk (behind_part p epoch (downs.Commit named d) s) = given_step epoch s named d t.ties in
      take_so epoch made (behind_part p epoch (downs.Commit named d) s) L O post first.1 come apart kinds.1
      (still_so s (behind_part p epoch (downs.Commit named d) s) L O post g.0 g.1 (record { ties = t.ties; stages = t.stages; owners = t.owners; coming = λ x z others up comes. let may : MayCome L (downs.Commit named d ∷ post) x z = t.coming x z others up comes in record { unheld = may.unheld; new = may.new; gone = may.gone }; coming_top = t.coming_top }))
  take_so epoch made s L O (downs.Kill ∷ post) first come apart kinds t =
      let g : TreesKept p s (behind_part p epoch downs.Kill s) × SeenTies c.tabs p mk (behind_part p epoch downs.Kill s) = kill_step epoch s t.ties in
      take_so epoch made (behind_part p epoch downs.Kill s) L O post first.1 come apart kinds.1
      (still_so s (behind_part p epoch downs.Kill s) L O post g.0 g.1 (record { ties = t.ties; stages = t.stages; owners = t.owners; coming = λ x z others up comes. let may : MayCome L (downs.Kill ∷ post) x z = t.coming x z others up comes in record { unheld = may.unheld; new = may.new; gone = may.gone }; coming_top = t.coming_top }))
  take_so epoch made s L O (_ ∷ post) first come apart kinds t = absurd kinds.0

-- ---- the take

module _ (c : Config) (p : ℕ) (mk : List Making) (l : Lined mk) (s : Seen) (st : SeenTies c.tabs p mk s) (g : List ProcessEvent) (runs : is_ended g ≡ false) (flows : Flows g) (t : TreeSeen c p mk s g)
    (d : Bundle DownBundle) (first : IsFirst d (bundles_waiting g)) (fits : DownFits c p mk s.frames_made d.content.parts)
  where
    abbrev look : Look ContextId Written DownBundle
    look = tree_look c p mk

    abbrev begin : Begin ContextId
    begin = tree_begin c p mk

    abbrev parts : List DownPart
    parts = singles d.content.parts

    kinds : AllByRecursion (SingleFits p s.frames_made) (singles d.content.parts)
    kinds = singles_fit p s.frames_made d.content.parts fits.kinds

    keeps : Keeps (tree_look c p mk) (tree_begin c p mk) g
    keeps = record { lawful = lawful c p mk l; flows = flows; fits = t.fits }

    coming_first : (x y : ContextId) → (x.creator == p + 1) ≡ false → above_in mk x ≡ Some y → parts_tell x (line x mk) (singles d.content.parts) ≡ Comes
        → MayCome c p mk l (λ z. stage (tree_look c p mk) (tree_begin c p mk) z g) (singles d.content.parts) x y
    coming_first x y others up comes =
        let law : (stage look begin x g ≡ Held → ⊥)
        × (stage look begin x g ≡ Coming → moved (look.tells y d.content) (stage look begin y g) ≡ Held)
        × (stage look begin x g ≡ Gone → moved (look.tells y d.content) (stage look begin y g) ≡ Held → ⊥) =
        comings_below look begin d g keeps runs first x y others up comes in
        record { unheld = law.0; new = law.1; gone = law.2 }

    top_first : (x : ContextId) → (x.creator == p + 1) ≡ false → above_in mk x ≡ None → parts_tell x (line x mk) (singles d.content.parts) ≡ Comes → stage (tree_look c p mk) (tree_begin c p mk) x g ≡ Coming
    top_first x others top comes = first_new look begin (lawful c p mk l) x others top d g flows t.fits runs first comes

    -- what is answered behind the parts
    so : (epoch : ℕ) → TakeSo c p mk l (behind_parts p epoch s (singles d.content.parts)) (λ x. moved (parts_tell x (line x mk) (singles d.content.parts)) (stage (tree_look c p mk) (tree_begin c p mk) x g))
        (λ x. owned_behind (parts_handed x (singles d.content.parts)) (owns (tree_look c p mk) (tree_begin c p mk) x g)) []
    so epoch =
        take_so c p mk l epoch s.frames_made s (λ x. stage look begin x g) (λ x. owns look begin x g) parts fits.first fits.come fits.apart kinds
        (record { ties = st; stages = λ x stays. t.stages x; owners = λ x stays. t.owners x; coming = coming_first; coming_top = top_first })

    -- what isn't brought: its own
    own_come : (x : ContextId) → x.creator ≡ p + 1 → (ks : List Known) → AllByRecursion (ComingFits c p mk) ks → AllByRecursion (λ j. same_context j.context x ≡ false) ks
    own_come x own [] all = tt
    own_come x own (k ∷ ks) all = (by_test (same_context k.context x) refl, own_come x own ks all.1)
      where
        by_test : (v : Bool) → same_context k.context x ≡ v → same_context k.context x ≡ false
        by_test false is = is
        by_test true is =
            true_false (k.context.creator == p + 1) (eq-eqb k.context.creator (p + 1) (ap (λ (z : ContextId). z.creator) (same_context_is k.context x is) ∙ own)) all.0.others

    -- what of its own goes with a discard that names it or one above
    goes_by : (x : ContextId) → x.creator ≡ p + 1 → s.frames_made < x.serial → (ps : List DownPart) → AllByRecursion (SingleFits p s.frames_made) ps → parts_tell x (line x mk) ps ≡ Goes
        → (a : ContextId) × (above_in mk x ≡ Some a) × (parts_tell a (line a mk) ps ≡ Goes)
    goes_by x own later [] kinds e = absurd cc
    goes_by x own later (downs.Create k ∷ ps) kinds e = more (goes_by x own later ps kinds.1) (both_goes (comes_if (same_context x k.context)) (parts_tell x (line x mk) ps) e)
      where
        never : (b : Bool) {A : Type 0} → comes_if b ≡ Goes → A
        never true e = absurd cc
        never false e = absurd cc

        more : (parts_tell x (line x mk) ps ≡ Goes → (a : ContextId) × (above_in mk x ≡ Some a) × (parts_tell a (line a mk) ps ≡ Goes)) → (comes_if (same_context x k.context) ≡ Goes) ⊎ (parts_tell x (line x mk) ps ≡ Goes)
            → (a : ContextId) × (above_in mk x ≡ Some a) × (parts_tell a (line a mk) (downs.Create k ∷ ps) ≡ Goes)
        more rest (inl is) = never (same_context x k.context) is
        more rest (inr is) = let r : (a : ContextId) × (above_in mk x ≡ Some a) × (parts_tell a (line a mk) ps ≡ Goes) = rest is in (r.0, r.1, goes_later (comes_if (same_context r.0 k.context)) (parts_tell r.0 (line r.0 mk) ps) r.2)
    goes_by x own later (downs.Discard w ∷ ps) kinds e = more kinds.0 (goes_by x own later ps kinds.1) (both_goes (goes_if (is_among w (line x mk))) (parts_tell x (line x mk) ps) e)
      where
        by_line : (w.creator ≡ p + 1 → w.serial ≤ s.frames_made) → (w ≡ x) ⊎ ((a : ContextId) × (above_in mk x ≡ Some a) × (is_among w (line a mk) ≡ true)) → (a : ContextId) × (above_in mk x ≡ Some a) × (parts_tell a (line a mk) (downs.Discard w ∷ ps) ≡ Goes)
        by_line made (inl same) = absurd (omega (arith, later, ap (λ (z : ContextId). z.serial) same, made (ap (λ (z : ContextId). z.creator) same ∙ own)))
        by_line made (inr (a, up, in_a)) = (a, up, ap (λ b. both (goes_if b) (parts_tell a (line a mk) ps)) in_a)

        more : (w.creator ≡ p + 1 → w.serial ≤ s.frames_made) → (parts_tell x (line x mk) ps ≡ Goes → (a : ContextId) × (above_in mk x ≡ Some a) × (parts_tell a (line a mk) ps ≡ Goes))
            → (goes_if (is_among w (line x mk)) ≡ Goes) ⊎ (parts_tell x (line x mk) ps ≡ Goes)
            → (a : ContextId) × (above_in mk x ≡ Some a) × (parts_tell a (line a mk) (downs.Discard w ∷ ps) ≡ Goes)
        more made rest (inl is) = by_line made (in_line mk l w x (goes_when (is_among w (line x mk)) is))
        more made rest (inr is) = let r : (a : ContextId) × (above_in mk x ≡ Some a) × (parts_tell a (line a mk) ps ≡ Goes) = rest is in (r.0, r.1, goes_later (goes_if (is_among w (line r.0 mk))) (parts_tell r.0 (line r.0 mk) ps) r.2)
    goes_by x own later (_ ∷ ps) kinds e = goes_by x own later ps kinds.1 e

    pub took : (s' : Seen) (epoch : ℕ) → ((x : ContextId) → s'.holds x ≡ (behind_parts p epoch s d.content.parts).holds x) → ((x : ContextId) → s'.owns x ≡ (behind_parts p epoch s d.content.parts).owns x)
        → s'.frames_made ≡ s.frames_made → TreeSeen c p mk s' (Takes d ∷ g)
    took s' epoch holds owning made = record {
      fits = ((λ r. tt), t.fits);
      stages = λ x. (so epoch).stages x never_goes ∙ sym (holds_single x) ∙ sym (holds x);
      owners = λ x held.
          let on : (behind_parts p epoch s (singles d.content.parts)).holds x ≡ true = sym (holds_single x) ∙ sym (holds x) ∙ held in
          owning x ∙ owns_single x ∙ (so epoch).owners x never_goes on ∙ sym (ap (λ h. owned_behind h (owns look begin x g)) (handed_is x on));
      unmade = λ x own later. not_made x own (subst (λ n. n < x.serial) made later);
    }
      where
        never_goes : Stays ≡ Goes → ⊥
        never_goes e = absurd cc

        -- taking the contexts one by one leaves the same
        holds_single : (x : ContextId) → (behind_parts p epoch s d.content.parts).holds x ≡ (behind_parts p epoch s (singles d.content.parts)).holds x
        holds_single x = ap (λ (u : Seen). u.holds x) (sym (taken_single p epoch d.content.parts s))

        owns_single : (x : ContextId) → (behind_parts p epoch s d.content.parts).owns x ≡ (behind_parts p epoch s (singles d.content.parts)).owns x
        owns_single x = ap (λ (u : Seen). u.owns x) (sym (taken_single p epoch d.content.parts s))

        handed_is : (x : ContextId) → (behind_parts p epoch s (singles d.content.parts)).holds x ≡ true → (tree_look c p mk).handed x d.content ≡ parts_handed x (singles d.content.parts)
        handed_is x held = by_effect (parts_tell x (line x mk) parts) refl
          where
            by_effect : (e : Effect) → parts_tell x (line x mk) (singles d.content.parts) ≡ e → handed_unless e (parts_handed x (singles d.content.parts)) ≡ parts_handed x (singles d.content.parts)
            by_effect Stays is = refl
            by_effect Comes is = refl
            by_effect Goes is = true_false ((behind_parts p epoch s parts).holds x) held (sym ((so epoch).stages x never_goes) ∙ ap (λ e. is_held (moved e (stage look begin x g))) is)

        not_made : (x : ContextId) → x.creator ≡ p + 1 → s.frames_made < x.serial → IsUnmade c p mk x (Takes d ∷ g)
        not_made x own later = let u : IsUnmade c p mk x g = t.unmade x own later in record {
          unheld = λ e. by_effect u ((tree_look c p mk).tells x d.content) refl e;
          with_above = λ e. by_gone u (gone_before (look.tells x d.content) (stage look begin x g) e);
        }
          where
            never_comes : (tree_look c p mk).tells x d.content ≡ Comes → ⊥
            never_comes e = unbrought x (line x mk) parts (own_come x own (come_all parts) fits.come) e

            by_effect : IsUnmade c p mk x g → (a : Effect) → (tree_look c p mk).tells x d.content ≡ a → moved ((tree_look c p mk).tells x d.content) (stage (tree_look c p mk) (tree_begin c p mk) x g) ≡ Held → ⊥
            by_effect u Stays is e = u.unheld (sym (ap (λ a. moved a (stage look begin x g)) is) ∙ e)
            by_effect u Comes is e = never_comes is
            by_effect u Goes is e = let two : Gone ≡ Held = sym (ap (λ a. moved a (stage look begin x g)) is) ∙ e in absurd cc

            by_gone : IsUnmade c p mk x g → (stage (tree_look c p mk) (tree_begin c p mk) x g ≡ Gone) ⊎ ((tree_look c p mk).tells x d.content ≡ Goes)
                → Above (tree_look c p mk) x (λ a. stage (tree_look c p mk) (tree_begin c p mk) a (Takes d ∷ g) ≡ Gone)
            by_gone u (inl was) = still (u.with_above was)
              where
                still : Above (tree_look c p mk) x (λ a. stage (tree_look c p mk) (tree_begin c p mk) a g ≡ Gone) → Above (tree_look c p mk) x (λ a. stage (tree_look c p mk) (tree_begin c p mk) a (Takes d ∷ g) ≡ Gone)
                still (a, up, gone) = (a, up, gone_behind (look.tells a d.content) (stage look begin a g) gone)
            by_gone u (inr goes) =
                let r : (a : ContextId) × (above_in mk x ≡ Some a) × (parts_tell a (line a mk) parts ≡ Goes) = goes_by x own later parts kinds goes in
                (r.0, r.1, ap (λ a. moved a (stage look begin r.0 g)) r.2)
