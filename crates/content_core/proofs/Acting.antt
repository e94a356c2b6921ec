-- What an action of a process comes to, by why it is refused.
use Rattle.std.proofs.Common.{◌≡◌, ◌≢◌, ◌∙◌, refl, sym, ap, ap₂, subst, ℕ, ◌<◌, ◌≤◌, ◌==◌, Bool, true, false, not, List, [], ◌∷◌, Option, None, Some, inl, inr, eq-eqb, eq-or-lt_of_le, true≢false}
use Rattle.std.specs.Prelude.{is_some, is_none, unwrap_or, Result, Ok, Err, IfOk}
use Rattle.std.specs.Option.{option_map_or}
use Rattle.fission_ids.specs.declared.context.ContextId.{ContextId}
use Rattle.field_table.specs.declared.field.Field.{Field}
use Rattle.field_table.specs.declared.field_set.FieldSet.{FieldSet}
use Rattle.field_table.specs.declared.value.Value.TheVariants.{Flag}
use Rattle.field_table.specs.FieldSet.{set_of}
use Rattle.field_rules.specs.Rules.{is_denied}
use Rattle.transaction.specs.Transaction.{Changes, new_value}
use Rattle.wire_msgs.specs.declared.action.Action.{Action}
use Rattle.wire_msgs.specs.declared.action.Action.TheVariants.{Set, Frame, Drop}
use Rattle.wire_msgs.specs.declared.answer.Answer.TheVariants.{Refused, Context, Done}
use Rattle.wire_msgs.specs.declared.part.UpPart.{UpPart}
use Rattle.wire_msgs.specs.declared.part.UpPart.TheVariants as ups
use Rattle.wire_msgs.specs.declared.refusal.Counted.TheVariants.{Contexts}
use Rattle.wire_msgs.specs.declared.refusal.Refusal.{Refusal}
use Rattle.wire_msgs.specs.declared.refusal.Refusal.TheVariants.{Denied, NoContext, NotMine, Stopped, TooMany}
use Rattle.protocol.specs.Hear.{set_of_fields}
use Rattle.protocol.specs.Fold.{behind_all}
use Rattle.protocol.specs.ParentActs.{refused_if, denial_refused}
use Rattle.protocol.specs.OwnActs.{refusal, says, answer, posts, action_step, denied_to_process, question_of_own, next_frame}
use Rattle.protocol.specs.Seen.{Seen}
use Rattle.protocol.specs.SeenAfter.{seen_after}
use Rattle.protocol.specs.Take.{Step, bundle_sent}
use Rattle.protocol.specs.Seen.Doing.{Framed, Went, Wrote}
use Rattle.content_core.specs.Held.{Does}
use Rattle.content_core.specs.Content.{Kept, seen_of}
use Rattle.content_core.specs.Moved.{MovedBy}
use Rattle.content_core.specs.declared.moved.Moved.{Moved}
use Rattle.content_core.specs.Steps.{is_field_denied, refused_step, allowed_step}
use Rattle.content_core.proofs.Denied.{set-filtered, none-denied, some-denied}

module _ (p : ℕ) (s : Seen) (x : ContextId) (t : Changes) where
  abbrev denials : List Field
  denials = denied_to_process p s x t

  -- why the write is refused, if the process runs
  abbrev pub why_not : Option Refusal
  why_not = refused_if (not (s.holds x)) NoContext (denial_refused denials)

  why_held : s.holds x ≡ true → why_not ≡ denial_refused denials
  why_held held = ap (λ (b : Bool). refused_if (not b) NoContext (denial_refused denials)) held

  -- the denied fields as a set
  module _ (denied : FieldSet) (top owned : Bool) (is_top : top ≡ is_none (s.above x)) (owns : owned ≡ s.owns x) (is_set : denied ≡ set_of (is_field_denied p top owned x t)) where
    denied_set : denied ≡ set_of_fields denials
    denied_set =
        is_set
        ∙ ap₂ (λ (a b : Bool). set_of (is_field_denied p a b x t)) is_top owns
        ∙ sym (set-filtered (λ f. is_some (new_value t f)) (λ f. is_denied (question_of_own p s x f (unwrap_or (new_value t f) (Flag false)))))

    pub allowed-none : s.holds x ≡ true → denied.0 ≡ 0 → None ≡ why_not
    allowed-none held none = sym (why_held held ∙ none-denied denials (ap (λ (d : FieldSet). d.0) (sym denied_set) ∙ none))

    pub refused-denied : s.holds x ≡ true → denied.0 ≢ 0 → Some (Denied denied) ≡ why_not
    refused-denied held some =
        ap (λ (d : FieldSet). Some (Denied d)) denied_set
        ∙ sym (why_held held ∙ some-denied denials (λ e. some (ap (λ (d : FieldSet). d.0) denied_set ∙ e)))

-- a test of a value that isn't there, as code answers it
pub none_is : {A : Type 0} (o : Option A) (b : Bool) → is_some o ≡ not b → b ≡ is_none o
none_is None true is = refl
none_is None false is = absurd (true≢false (sym is))
none_is (Some a) true is = absurd (true≢false is)
none_is (Some a) false is = refl

-- why a running process's write is refused
pub refusal-set : (p : ℕ) (s : Seen) (action : Action) (x : ContextId) (t : Changes) → action ≡ Set x t → s.running ≡ true → why_not p s x t ≡ refusal p s action
unfolding refusal
refusal-set p s action x t is runs =
    ap (λ (b : Bool). refused_if (not b) Stopped (why_not p s x t)) (sym runs)
    ∙ ap (refusal p s) (sym is)

-- what isn't refused passes the first test, and isn't refused by the rest
pub passes : (test : Bool) (why : Refusal) (later : Option Refusal) → refused_if (not test) why later ≡ None → (test ≡ true) × (later ≡ None)
passes true why later is = (refl, is)
passes false why later is = absurd (cc)

passes_not : (test : Bool) (why : Refusal) (later : Option Refusal) → refused_if test why later ≡ None → (test ≡ false) × (later ≡ None)
passes_not false why later is = (refl, is)
passes_not true why later is = absurd (cc)

module _ (p : ℕ) (s : Seen) (x : ContextId) where
  -- what isn't refused is of a context that is held
  pub set-held : (t : Changes) → refusal p s (Set x t) ≡ None → s.holds x ≡ true
  unfolding refusal
  set-held t is = (passes (s.holds x) NoContext _ (passes s.running Stopped _ is).1).0

  pub frame-held : refusal p s (Frame x) ≡ None → s.holds x ≡ true
  unfolding refusal
  frame-held is = (passes (s.holds x) NoContext _ (passes s.running Stopped _ is).1).0

  -- and not as many frames were made as may be
  pub frame-few : refusal p s (Frame x) ≡ None → s.frames_made ≤ 240 → s.frames_made < 240
  unfolding refusal
  frame-few is few =
      let owned : refused_if (not (s.owns x)) NotMine (refused_if (s.frames_made == 240) (TooMany Contexts 240) None) ≡ None =
      (passes (s.holds x) NoContext _ (passes s.running Stopped _ is).1).1 in
      let left : (s.frames_made == 240) ≡ false = (passes_not (s.frames_made == 240) (TooMany Contexts 240) None (passes (s.owns x) NotMine _ owned).1).0 in
      elim (eq-or-lt_of_le few) [
        | inl e ↦ absurd (true≢false (sym (eq-eqb s.frames_made 240 e) ∙ left))
        | inr less ↦ less
      ]

-- ---- the whole step

module _ (k : Kept) (p : ℕ) (action : Action) where
  abbrev s : Seen
  s = seen_of k

  abbrev done : Option Refusal → Step Seen
  done o = option_map_or (λ why. record { answer = Refused why; kept = s; sends = [] }) o (allowed_step p action s)

  pub moved-refused : (why : Refusal) (m : Moved) → refusal p s action ≡ Some why → MovedBy k (refused_step why s) m → MovedBy k (action_step (λ q. q) (seen_after p) p action s) m
  moved-refused why m is moved = subst (λ (o : Option Refusal). MovedBy k (done o) m) (sym is) moved

  pub moved-allowed : (m : Moved) → refusal p s action ≡ None → MovedBy k (allowed_step p action s) m → MovedBy k (action_step (λ q. q) (seen_after p) p action s) m
  moved-allowed m is moved = subst (λ (o : Option Refusal). MovedBy k (done o) m) (sym is) moved

-- what isn't refused comes to one doing, and sends one part
module _ (old new : Kept) (x : ContextId) (parts : List UpPart) (m : Moved) (core : m.core ≡ new) (sent : m.sent ≡ bundle_sent (seen_of new) parts) where
  pub moved-set : (t change : Changes) → t ≡ change → Does (Wrote x t) old new → m.answer ≡ Done → parts ≡ ups.Commit x change ∷ []
      → MovedBy old (allowed_step old.process (Set x change) (seen_of old)) m
  unfolding answer says posts behind_all
  moved-set t change same does answered parts_are =
      let behind : seen_of new ≡ seen_after old.process (Wrote x change) (seen_of old) =
      does.seen ∙ ap (λ (u : Changes). seen_after old.process (Wrote x u) (seen_of old)) same in
      record {
        process = ap (λ (k : Kept). k.process) core ∙ does.process;
        seen = ap seen_of core ∙ behind;
        answer = answered;
        sent = sent ∙ ap₂ bundle_sent behind parts_are;
      }

  pub moved-frame : (y : ContextId) → y ≡ next_frame old.process (seen_of old) → Does (Framed y x) old new → m.answer ≡ Context y → parts ≡ ups.Create y x ∷ []
      → MovedBy old (allowed_step old.process (Frame x) (seen_of old)) m
  unfolding answer says posts behind_all
  moved-frame y is does answered parts_are =
      let behind : seen_of new ≡ seen_after old.process (Framed (next_frame old.process (seen_of old)) x) (seen_of old) =
      does.seen ∙ ap (λ (z : ContextId). seen_after old.process (Framed z x) (seen_of old)) is in
      record {
        process = ap (λ (k : Kept). k.process) core ∙ does.process;
        seen = ap seen_of core ∙ behind;
        answer = answered ∙ ap Context is;
        sent = sent ∙ ap₂ bundle_sent behind (parts_are ∙ ap (λ (z : ContextId). ups.Create z x ∷ []) is);
      }

  pub moved-drop : Does (Went x) old new → m.answer ≡ Done → parts ≡ ups.Drop x ∷ [] → MovedBy old (allowed_step old.process (Drop x) (seen_of old)) m
  unfolding answer says posts behind_all
  moved-drop does answered parts_are = record {
    process = ap (λ (k : Kept). k.process) core ∙ does.process;
    seen = ap seen_of core ∙ does.seen;
    answer = answered;
    sent = sent ∙ ap₂ bundle_sent does.seen parts_are;
  }

-- what holds of each result holds of a result
pub if_ok : {A E : Type 0} {P Q : A → Type 0} (r : Result A E) → ((a : A) → P a → Q a) → IfOk r P → IfOk r Q
if_ok (Ok a) from is = from a is
if_ok (Err e) from is = is
