-- What the end of a process by its bundle leaves as it was.
use Rattle.std.proofs.Common.{◌≡◌, ℕ, zero, suc, ◌+◌, ◌==◌, Bool, true, false, if◌then◌else◌, Option, None, Some, is_some, List, [], ◌∷◌, ◌++◌, length, map, refl, ap, sym, ◌∙◌, eq-eqb}
use Rattle.std.specs.List.{list_any}
use Rattle.std.specs.Option.{option_map_or}
use Rattle.fission_ids.specs.declared.context.ContextId.{ContextId}
use Rattle.field_table.specs.declared.field.Field.{Field}
use Rattle.wire_msgs.specs.declared.answer.Answer.TheVariants.{Ended as EndedBy, Ignored}
use Rattle.wire_msgs.specs.declared.bundle.DownBundle.{DownBundle}
use Rattle.wire_msgs.specs.declared.bundle.UpBundle.{UpBundle}
use Rattle.wire_msgs.specs.declared.cause.EndCause.{EndCause}
use Rattle.wire_msgs.specs.declared.config.Config.{Config}
use Rattle.wire_msgs.specs.declared.config.StartTab.{StartTab}
use Rattle.wire_msgs.specs.declared.part.DownPart.{DownPart}
use Rattle.protocol.specs.Questions.{Facts, Contexts, option_any}
use Rattle.protocol.specs.Sayings.{Saying}
use Rattle.protocol.specs.Sayings.Saying.{Counted, Ended, Sent}
use Rattle.protocol.specs.Fold.{or_later, first_fault}
use Rattle.protocol.specs.Hear.{hear_rules}
use Rattle.protocol.specs.Bundle.{Ruling, is_no_bundle, after_sending, ruling, end_parts, is_counted, envelope_fault, end_ruling, parts_ruling, bundle_for}
use Rattle.traces.specs.Event.{Bundle}
use Rattle.traces.specs.Event.Event.{Ends}
use Rattle.traces.specs.Links.{writes_waiting, bundles_waiting}
use Rattle.model.specs.Laws.{EndsAlone, EndChangesNothingElse}
use Rattle.model.specs.Links.{bundles_in}
use Rattle.model.specs.Moments.{Moment, Written, ProcessEvent, said, events_of, events_heard, is_end_of, ends, told, heard as heard_events, bundle_moment, heard_moment}
use Rattle.model.specs.Moments.Written.{Own, Raw, Said}
use Rattle.model.specs.Parent.{asked, known, group, above, under, live, owner, value, order, ended}

-- ---- what is counted changes no context, and ends nobody

-- what was said before, and more, that changes no context and doesn't end process p
record SaysLittle (tabs : List StartTab) (p : ℕ) (more old : List Saying) : Type 0 where
  contexts : (asked tabs (more ++ old)).contexts ≡ (asked tabs old).contexts
  ended : ended p (more ++ old) ≡ ended p old

one_counted : (tabs : List StartTab) (p n : ℕ) (more old : List Saying) → SaysLittle tabs p more old → SaysLittle tabs p (Counted n ∷ more) old
unfolding known group above under live owner value order ended
one_counted tabs p n more old s = record { contexts = s.contexts; ended = s.ended }

nothing_said : (tabs : List StartTab) (p : ℕ) (old : List Saying) → SaysLittle tabs p [] old
nothing_said tabs p old = record { contexts = refl; ended = refl }

counted_little : (tabs : List StartTab) (p : ℕ) (old : List Saying) (v : Bool) → SaysLittle tabs p (if v then Counted p ∷ [] else []) old
counted_little tabs p old true = one_counted tabs p p [] old (nothing_said tabs p old)
counted_little tabs p old false = nothing_said tabs p old

-- what is said behind the bundles that the first n processes are sent
abbrev sendings : (List Saying → Facts) → ℕ → (ℕ → List DownPart) → List Saying → List Saying
sendings facts n sends says = after_sending facts (λ y says. y ∷ says) n sends says

-- ---- an end

-- what the parent answers behind an end that was all that was said, but for counts and bundles
record SaysEnd (tabs : List StartTab) (p : ℕ) (cause : EndCause) (kept old : List Saying) : Type 0 where
  contexts : (asked tabs (kept ++ old)).contexts ≡ record (asked tabs old).contexts { owner = λ x. if option_any (λ q. q == p) (owner tabs x old) then None else owner tabs x old }
  ended : ended p (kept ++ old) ≡ Some cause

end_said : (tabs : List StartTab) (p : ℕ) (cause : EndCause) (before old : List Saying) → SaysLittle tabs p before old → SaysEnd tabs p cause (Ended p cause ∷ before) old
unfolding known group above under live owner value order ended
end_said tabs p cause before old s = record {
  contexts = ap (λ (c : Contexts). record c { owner = λ x. if option_any (λ q. q == p) (c.owner x) then None else c.owner x }) s.contexts;
  ended = ap (λ (v : Bool). if v then Some cause else ended p (before ++ old)) (eq-eqb p p refl);
}

sent_behind : (tabs : List StartTab) (p : ℕ) (cause : EndCause) (n : ℕ) (b : Bool) (says old : List Saying) → SaysEnd tabs p cause says old → SaysEnd tabs p cause (if b then says else Sent n ∷ says) old
unfolding known group above under live owner value order ended
sent_behind tabs p cause n true says old s = s
sent_behind tabs p cause n false says old s = record { contexts = s.contexts; ended = s.ended }

all_sent : (tabs : List StartTab) (p : ℕ) (cause : EndCause) (facts : List Saying → Facts) (n : ℕ) (sends : ℕ → List DownPart) (says old : List Saying) → SaysEnd tabs p cause says old → SaysEnd tabs p cause (sendings facts n sends says) old
all_sent tabs p cause facts zero sends says old s = s
all_sent tabs p cause facts (suc n) sends says old s =
    sent_behind tabs p cause n (is_no_bundle (sends n)) (sendings facts n sends says) old (all_sent tabs p cause facts n sends says old s)

-- the moment of a bundle with this ruling
abbrev hear_moment : Config → ℕ → List Moment → Written → Ruling (List Saying) → Moment
hear_moment c q ms w rule = record { says = rule.kept; did = λ p. []; events = events_heard c q ms w rule; answer = rule.answer }

module _ (c : Config) (p : ℕ) (ms : List Moment) (w : Written) (cause : EndCause) (s : List Saying) (little : SaysLittle c.tabs p s (said ms)) where
  kept : List Saying
  kept = sendings (λ says. asked c.tabs (says ++ said ms)) (length c.types) (λ q. if q == p then end_parts cause else []) (Ended p cause ∷ s)

  said_is : SaysEnd c.tabs p cause kept (said ms)
  unfolding kept
  said_is = all_sent c.tabs p cause (λ says. asked c.tabs (says ++ said ms)) (length c.types) (λ q. if q == p then end_parts cause else []) (Ended p cause ∷ s) (said ms) (end_said c.tabs p cause s (said ms) little)

  owner_is : (x : ContextId) → (asked c.tabs (kept ++ said ms)).contexts.owner x ≡ (if option_any (λ q. q == p) (owner c.tabs x (said ms)) then None else owner c.tabs x (said ms))
  owner_is x = ap (λ (k : Contexts). k.owner x) said_is.contexts

  -- what an entry that tells a process nothing leaves on its links
  up_still : (v : Bool) (k : ℕ) (says : List Saying) (h : List ProcessEvent) → bundles_in (writes_waiting (((if v then Ends ∷ [] else []) ++ told k says None ∷ []) ++ h)) ≡ bundles_in (writes_waiting h)
  up_still true k says h = refl
  up_still false k says h = refl

  down_still : (v : Bool) (k : ℕ) (says : List Saying) (h : List ProcessEvent)
      → map (λ (b : Bundle DownBundle). b.content) (bundles_waiting (((if v then Ends ∷ [] else []) ++ told k says None ∷ []) ++ h)) ≡ map (λ (b : Bundle DownBundle). b.content) (bundles_waiting h)
  down_still true k says h = refl
  down_still false k says h = refl

  no_cause : None ≡ Some cause → ⊥
  no_cause e = cc

  -- the events of another
  other_events : (q : ℕ) → (q == p) ≡ false
      → (hear_moment c p ms w (end_ruling (λ says. asked c.tabs (says ++ said ms)) (λ y says. y ∷ says) (length c.types) p cause s)).events q ≡ ends q kept ++ told (length ms + 1) kept None ∷ []
  unfolding kept
  other_events q e =
      ap (λ (v : Bool). ends q kept ++ (if v then heard_events (length ms + 1) w (EndedBy cause) kept (bundle_for (asked c.tabs (kept ++ said ms)) p (if p == p then end_parts cause else []))
      else told (length ms + 1) kept (bundle_for (asked c.tabs (kept ++ said ms)) q (if q == p then end_parts cause else [])) ∷ [])) e
      ∙ ap (λ (v : Bool). ends q kept ++ told (length ms + 1) kept (bundle_for (asked c.tabs (kept ++ said ms)) q (if v then end_parts cause else [])) ∷ []) e

  ends_alone : EndsAlone c p (hear_moment c p ms w (end_ruling (λ says. asked c.tabs (says ++ said ms)) (λ y says. y ∷ says) (length c.types) p cause s)) ms
  unfolding kept
  ends_alone = record {
    ended = λ none. no_cause (sym none ∙ said_is.ended);
    contexts = ap (λ (k : Contexts). record k { owner = λ x. owner c.tabs x (said ms) }) said_is.contexts;
    owned = λ x. ap (option_any (λ q. q == p)) (owner_is x) ∙ none_owns (owner c.tabs x (said ms));
    owners = λ x free. owner_is x ∙ ap (λ (v : Bool). if v then None else owner c.tabs x (said ms)) free;
    seen = λ q. refl;
    ups = λ q e. ap (λ (es : List ProcessEvent). bundles_in (writes_waiting (es ++ events_of q ms))) (other_events q e) ∙ up_still (list_any (is_end_of q) kept) (length ms + 1) kept (events_of q ms);
    downs = λ q e. ap (λ (es : List ProcessEvent). map (λ (b : Bundle DownBundle). b.content) (bundles_waiting (es ++ events_of q ms))) (other_events q e) ∙ down_still (list_any (is_end_of q) kept) (length ms + 1) kept (events_of q ms);
  }
    where
      none_owns : (o : Option ℕ) → option_any (λ q. q == p) (if option_any (λ q. q == p) o then None else o) ≡ false
      none_owns None = refl
      none_owns (Some q) = by (q == p) refl
        where
          by : (v : Bool) → (q == p) ≡ v → option_any (λ r. r == p) (if v then None else Some q) ≡ false
          by true e = refl
          by false e = e

-- ---- a bundle that ends its sender

bundle_ends : (c : Config) (ms : List Moment) (allows : Field → Bool) (p : ℕ) (w : Written) (b : UpBundle) (cause : EndCause) → (bundle_moment c p ms allows w b).answer ≡ EndedBy cause
    → EndsAlone c p (bundle_moment c p ms allows w b) ms
bundle_ends c ms allows p w b cause =
    by (is_some (ended p (said ms)))
    (or_later (envelope_fault (asked c.tabs (said ms)) p b) (first_fault (hear_rules allows p p) (λ says. asked c.tabs (says ++ said ms)) (λ y says. y ∷ says) 1 counted b.parts))
  where
    counted : List Saying
    counted = if is_counted (asked c.tabs (said ms)) p b then Counted p ∷ [] else []

    -- the ruling, by whether the process was ended, and by the fault
    rule : Bool → Option EndCause → Ruling (List Saying)
    rule over fault =
        if over then ruling (λ says. asked c.tabs (says ++ said ms)) (λ y says. y ∷ says) (length c.types) Ignored (λ q. []) []
        else option_map_or (λ why. end_ruling (λ says. asked c.tabs (says ++ said ms)) (λ y says. y ∷ says) (length c.types) p why counted) fault
        (parts_ruling (λ says. asked c.tabs (says ++ said ms)) (λ y says. y ∷ says) (length c.types) allows p b counted)

    by : (over : Bool) (fault : Option EndCause) → (rule over fault).answer ≡ EndedBy cause → EndsAlone c p (hear_moment c p ms w (rule over fault)) ms
    by true fault e = absurd cc
    by false None e = absurd cc
    by false (Some why) e = ends_alone c p ms w why counted (counted_little c.tabs p (said ms) (is_counted (asked c.tabs (said ms)) p b))

pub end_alone : EndChangesNothingElse
end_alone c ms allows p cause = by (writes_waiting (events_of p.0 ms))
  where
    by : (ws : List Written) → (heard_moment c p.0 ms allows ws).answer ≡ EndedBy cause → EndsAlone c p.0 (heard_moment c p.0 ms allows ws) ms
    by [] e = absurd cc
    by (Own b ∷ ws) e = bundle_ends c ms allows p.0 (Own b) b cause e
    by (Raw b ∷ ws) e = bundle_ends c ms allows p.0 (Raw b) b cause e
    by (Said says ∷ ws) e = absurd cc
