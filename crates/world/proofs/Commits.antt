-- No more commits were made or heard than there are entries.
use Rattle.std.proofs.Common.{◌≡◌, ℕ, zero, suc, ◌+◌, ◌≤◌, ◌==◌, Bool, true, false, if◌then◌else◌, List, [], ◌∷◌, ◌++◌, length, map, refl, ◌∙◌, arith}
use Rattle.std.specs.Prelude.{is_none, is_some}
use Rattle.field_table.specs.declared.field.Field.{Field}
use Rattle.wire_msgs.specs.declared.action.Action.{Action}
use Rattle.wire_msgs.specs.declared.action.Action.TheVariants as own
use Rattle.wire_msgs.specs.declared.action.ParentAction.{ParentAction}
use Rattle.wire_msgs.specs.declared.action.ParentAction.TheVariants as parents
use Rattle.wire_msgs.specs.declared.answer.Answer.TheVariants.{Refused}
use Rattle.wire_msgs.specs.declared.bundle.DownBundle.{DownBundle}
use Rattle.wire_msgs.specs.declared.bundle.UpBundle.{UpBundle}
use Rattle.wire_msgs.specs.declared.cause.EndCause.{EndCause}
use Rattle.wire_msgs.specs.declared.config.Config.{Config}
use Rattle.wire_msgs.specs.declared.note.Mark.TheVariants.{Done, Late}
use Rattle.wire_msgs.specs.declared.note.PartNote.{PartNote}
use Rattle.wire_msgs.specs.declared.note.PartNote.TheVariants as notes
use Rattle.wire_msgs.specs.declared.part.DownPart.{DownPart}
use Rattle.wire_msgs.specs.declared.part.DownPart.TheVariants as downs
use Rattle.wire_msgs.specs.declared.part.Known.{Known}
use Rattle.wire_msgs.specs.declared.part.UpPart.{UpPart}
use Rattle.wire_msgs.specs.declared.part.UpPart.TheVariants as ups
use Rattle.wire_msgs.specs.declared.refusal.Refusal.TheVariants.{Stopped}
use Rattle.journal.specs.declared.entry.Step.{Step}
use Rattle.journal.specs.declared.entry.Step.TheVariants.{Act, Take, Raw as RawStep, ParentAct, Hear}
use Rattle.protocol.specs.Bundle.{Ruling, after_sending, bundle_ruling, envelope_fault, is_counted, is_no_bundle}
use Rattle.protocol.specs.Fold.{or_later, behind_all, after_part, after_parts, first_fault}
use Rattle.protocol.specs.FactsAfter.{raised}
use Rattle.protocol.specs.Hear as hear
use Rattle.protocol.specs.Outside.{told_allowed}
use Rattle.protocol.specs.OwnActs as acts
use Rattle.protocol.specs.ParentActs as parent_acts
use Rattle.protocol.specs.Questions.{Facts, is_subscribed}
use Rattle.protocol.specs.Sayings.{Saying}
use Rattle.protocol.specs.Sayings.Saying.{Opened, Subscribed, Counted, Sent, Ended}
use Rattle.protocol.specs.Seen.{Seen, Doing}
use Rattle.protocol.specs.Seen.Doing.{Came, Wrote, Took}
use Rattle.protocol.specs.Take as take
use Rattle.traces.specs.Event.{Bundle}
use Rattle.traces.specs.Links.{writes_waiting, bundles_waiting}
use Rattle.model.specs.Journal.{Journal}
use Rattle.model.specs.Moments.{Moment, Written, said, did_by, events_of, seen_now, only_answer, taken_moment, raw_moment, if_running, heard_moment, moment, moments_of}
use Rattle.model.specs.Moments.Written.{Own, Raw, Said}
use Rattle.model.specs.Parent.{commits_heard}
use Rattle.model.specs.Process.{commits}
use Rattle.model.proofs.Cases.{by_if}
use Rattle.model.proofs.ClassifyTold.{by_option}
use Rattle.world.proofs.LooksBack.{facts_with, seen_with}

-- ---- those that a process makes

made_over : (did old : List Doing) → commits (did ++ old) ≡ commits did + commits old
unfolding commits
made_over [] old = omega arith
made_over (Wrote x t ∷ did) old = omega (arith, made_over did old)
made_over (_ ∷ did) old = made_over did old

none_made : commits [] ≡ 0
unfolding commits
none_made = refl

-- by an action
says_made : (p : ℕ) (s : Seen) (action : Action) → commits (behind_all (λ d did. d ∷ did) (acts.says p s action) []) ≤ 1
unfolding commits behind_all acts.says
says_made p s (own.Set x t) = omega arith
says_made p s (own.Frame a) = omega arith
says_made p s (own.Drop x) = omega arith
says_made p s (_) = omega arith

act_made : (p : ℕ) (action : Action) (seen : List Doing → Seen) → commits (acts.action_step seen (λ d did. d ∷ did) p action []).kept ≤ 1
act_made p action seen =
    by_option (λ (st : take.Step (List Doing)). commits st.kept ≤ 1) _ (acts.refusal p (seen []) action) _ (λ why refused. omega (arith, none_made)) (λ allowed. says_made p (seen []) action)

-- by a take
came_made : (ks : List Known) (did : List Doing) → commits (behind_all (λ d did. d ∷ did) (map Came ks) did) ≡ commits did
unfolding commits behind_all
came_made [] did = refl
came_made (k ∷ ks) did = came_made ks (Came k ∷ did)

part_made : (a : DownPart) (n : PartNote) (did : List Doing) → commits (behind_all (λ d did. d ∷ did) (take.says a n) did) ≡ commits did
unfolding commits behind_all take.says
part_made (downs.Register g ks) n did = came_made ks did
part_made (downs.Create k) n did = refl
part_made (downs.Commit x t) (notes.Commit y ns) did = refl
part_made (downs.Discard x) n did = refl
part_made (downs.CloseWindow x) n did = refl
part_made downs.Kill n did = refl
part_made (_) n did = refl

parts_made : (p epoch : ℕ) (seen : List Doing → Seen) (parts : List DownPart) (did : List Doing) → commits (after_parts (take.take_rules p epoch) seen (λ d did. d ∷ did) did parts) ≡ commits did
unfolding after_parts
parts_made p epoch seen [] did = refl
parts_made p epoch seen (a ∷ parts) did =
    parts_made p epoch seen parts (after_part (take.take_rules p epoch) seen (λ d did. d ∷ did) a did) ∙ part_made a (take.note p epoch (seen did) a) did

took_none : (did : List Doing) → commits did ≡ 0 → commits (Took ∷ did) ≤ 1
unfolding commits
took_none did none = omega (arith, none)

take_made : (c : Config) (p q : ℕ) (ms : List Moment) (ds : List (Bundle DownBundle)) → commits ((taken_moment c p ms ds).did q) ≤ 1
take_made c p q ms [] = omega (arith, none_made)
take_made c p q ms (d ∷ ds) =
    by_if (λ (did : List Doing). commits did ≤ 1) (q == p) _ [] (λ is. took_none _ (parts_made p d.content.epoch.0 (seen_with c p ms) d.content.parts [] ∙ none_made)) (λ isnt. omega (arith, none_made))

running_made : (c : Config) (p q : ℕ) (ms : List Moment) (m : Moment) → commits (m.did q) ≤ 1 → commits ((if_running c p ms m).did q) ≤ 1
running_made c p q ms m one = by_if (λ (k : Moment). commits (k.did q) ≤ 1) (seen_now c p ms).running m (only_answer (Refused Stopped)) (λ runs. one) (λ stopped. omega (arith, none_made))

hear_made : (c : Config) (p q : ℕ) (ms : List Moment) (allows : Field → Bool) (ws : List Written) → commits ((heard_moment c p ms allows ws).did q) ≤ 1
hear_made c p q ms allows [] = omega (arith, none_made)
hear_made c p q ms allows (Own b ∷ ws) = omega (arith, none_made)
hear_made c p q ms allows (Raw b ∷ ws) = omega (arith, none_made)
hear_made c p q ms allows (Said says ∷ ws) = omega (arith, none_made)

moment_made : (c : Config) (ms : List Moment) (allows : Field → Bool) (s : Step) (q : ℕ) → commits ((moment c ms allows s).did q) ≤ 1
moment_made c ms allows (Act p action) q = by_if (λ (did : List Doing). commits did ≤ 1) (q == p.0) _ [] (λ is. act_made p.0 action (seen_with c p.0 ms)) (λ isnt. omega (arith, none_made))
moment_made c ms allows (Take p) q = running_made c p.0 q ms (taken_moment c p.0 ms (bundles_waiting (events_of p.0 ms))) (take_made c p.0 q ms (bundles_waiting (events_of p.0 ms)))
moment_made c ms allows (RawStep p b) q = running_made c p.0 q ms (raw_moment p.0 b) (omega (arith, none_made))
moment_made c ms allows (ParentAct action) q = omega (arith, none_made)
moment_made c ms allows (Hear p) q = hear_made c p.0 q ms allows (writes_waiting (events_of p.0 ms))

pub made_count : (c : Config) (j : Journal) (p : ℕ) → commits (did_by p (moments_of c j)) ≤ length j
unfolding moments_of
made_count c [] p = omega (arith, none_made)
made_count c (e ∷ j) p =
    let ms : List Moment = moments_of c j in
    let m : Moment = moment c ms (told_allowed e.answer) e.step in
    omega (arith, made_over (m.did p) (did_by p ms), moment_made c ms (told_allowed e.answer) e.step p, made_count c j p)

-- ---- those that the parent hears

module _ (p : ℕ) (old : List Saying) where
  sent_still : (facts : List Saying → Facts) (n : ℕ) (sends : ℕ → List DownPart) (ys : List Saying) → commits_heard p (after_sending facts (λ y says. y ∷ says) n sends ys ++ old) ≡ commits_heard p (ys ++ old)
  unfolding commits_heard
  sent_still facts zero sends ys = refl
  sent_still facts (suc n) sends ys = by (is_no_bundle (sends n)) (sent_still facts n sends ys)
    where
      by : (b : Bool) → commits_heard p (after_sending facts (λ y says. y ∷ says) n sends ys ++ old) ≡ commits_heard p (ys ++ old)
          → commits_heard p ((if b then after_sending facts (λ y says. y ∷ says) n sends ys else Sent n ∷ after_sending facts (λ y says. y ∷ says) n sends ys) ++ old) ≡ commits_heard p (ys ++ old)
      by true so = so
      by false so = so

  part_still : (q : ℕ) (a : UpPart) (n : PartNote) (ys : List Saying) → commits_heard p (behind_all (λ y says. y ∷ says) (hear.says q a n) ys ++ old) ≡ commits_heard p (ys ++ old)
  unfolding commits_heard behind_all hear.says
  part_still q (ups.Create x a) (notes.Create y Done) ys = refl
  part_still q (ups.Create x a) (notes.Create y Late) ys = refl
  part_still q (ups.Drop x) (notes.Drop y Done) ys = refl
  part_still q (ups.DropAck x) (notes.Ack y) ys = refl
  part_still q (ups.Commit x t) (notes.Commit y ns) ys = refl
  part_still q (_) (_) ys = refl

  parts_still : (allows : Field → Bool) (q : ℕ) (facts : List Saying → Facts) (parts : List UpPart) (ys : List Saying)
      → commits_heard p (after_parts (hear.hear_rules allows q q) facts (λ y says. y ∷ says) ys parts ++ old) ≡ commits_heard p (ys ++ old)
  unfolding after_parts
  parts_still allows q facts [] ys = refl
  parts_still allows q facts (a ∷ parts) ys =
      parts_still allows q facts parts (after_part (hear.hear_rules allows q q) facts (λ y says. y ∷ says) a ys) ∙ part_still q a (hear.note allows q (facts ys) a) ys

  act_still : (f : Facts) (action : ParentAction) → commits_heard p (behind_all (λ y says. y ∷ says) (parent_acts.says f action) [] ++ old) ≡ commits_heard p old
  unfolding commits_heard behind_all parent_acts.says
  act_still f (parents.Set x t) = refl
  act_still f (parents.Tab q named) = by_test (is_subscribed f q.0 (parent_acts.group_of_tab f named))
    where
      by_test : (b : Bool) → commits_heard p (behind_all (λ y says. y ∷ says) (Opened (parent_acts.context_of_tab f) (parent_acts.group_of_tab f named) (is_none named) q.0
          ∷ (if b then [] else Subscribed q.0 (parent_acts.group_of_tab f named) ∷ [])) [] ++ old) ≡ commits_heard p old
      by_test true = refl
      by_test false = refl
  act_still f (parents.Subscribe q g) = by_test (is_subscribed f q.0 g)
    where
      by_test : (b : Bool) → commits_heard p (behind_all (λ y says. y ∷ says) (if b then [] else Subscribed q.0 g ∷ []) [] ++ old) ≡ commits_heard p old
      by_test true = refl
      by_test false = refl
  act_still f (parents.Discard x) = refl
  act_still f (parents.Kill q) = refl
  act_still f (_) = refl

  -- these sayings count one at most
  abbrev CountOne : List Saying → Type 0
  CountOne says = commits_heard p (says ++ old) ≤ commits_heard p old + 1

  counted_one : (q : ℕ) (b : Bool) → CountOne (if b then Counted q ∷ [] else [])
  unfolding commits_heard
  counted_one q false = omega arith
  counted_one q true = by_test (p == q)
    where
      by_test : (b : Bool) → raised b (commits_heard p old) ≤ commits_heard p old + 1
      by_test true = omega arith
      by_test false = omega arith

  ended_one : (q : ℕ) (cause : EndCause) (ys : List Saying) → CountOne ys → CountOne (Ended q cause ∷ ys)
  unfolding commits_heard
  ended_one q cause ys one = one

  sent_one : (facts : List Saying → Facts) (n : ℕ) (sends : ℕ → List DownPart) (ys : List Saying) → CountOne ys → CountOne (after_sending facts (λ y says. y ∷ says) n sends ys)
  sent_one facts n sends ys one = omega (arith, sent_still facts n sends ys, one)

  action_one : (facts : List Saying → Facts) (n : ℕ) (action : ParentAction) → CountOne (parent_acts.action_ruling facts (λ y says. y ∷ says) n action []).kept
  action_one facts n action =
      by_option (λ (rule : Ruling (List Saying)). CountOne rule.kept) _ (parent_acts.refusal (facts []) action) _
      (λ why refused. sent_one facts n (λ q. []) [] (omega arith))
      (λ allowed. sent_one facts n _ (behind_all (λ y says. y ∷ says) (parent_acts.says (facts []) action) []) (omega (arith, act_still (facts []) action)))

  bundle_one : (facts : List Saying → Facts) (n : ℕ) (allows : Field → Bool) (q : ℕ) (b : UpBundle) → CountOne (bundle_ruling facts (λ y says. y ∷ says) n allows q b []).kept
  bundle_one facts n allows q b =
      by_if (λ (rule : Ruling (List Saying)). CountOne rule.kept) (is_some ((facts []).processes.ended q)) _ _
      (λ over. sent_one facts n (λ r. []) [] (omega arith))
      (λ alive. by_option (λ (rule : Ruling (List Saying)). CountOne rule.kept) _
      (or_later (envelope_fault (facts []) q b) (first_fault (hear.hear_rules allows q q) facts (λ y says. y ∷ says) 1 counted b.parts)) _
      (λ cause faulty. sent_one facts n _ (Ended q cause ∷ counted) (ended_one q cause counted one))
      (λ fine. sent_one facts n _ (after_parts (hear.hear_rules allows q q) facts (λ y says. y ∷ says) counted b.parts) (omega (arith, parts_still allows q facts b.parts counted, one))))
    where
      counted : List Saying
      counted = if is_counted (facts []) q b then Counted q ∷ [] else []

      one : CountOne counted
      one = counted_one q (is_counted (facts []) q b)

take_heard : (c : Config) (p q : ℕ) (ms : List Moment) (ds : List (Bundle DownBundle)) → CountOne q (said ms) (taken_moment c p ms ds).says
take_heard c p q ms [] = omega arith
take_heard c p q ms (d ∷ ds) = omega arith

running_heard : (c : Config) (p q : ℕ) (ms : List Moment) (m : Moment) → CountOne q (said ms) m.says → CountOne q (said ms) (if_running c p ms m).says
running_heard c p q ms m one = by_if (λ (k : Moment). CountOne q (said ms) k.says) (seen_now c p ms).running m (only_answer (Refused Stopped)) (λ runs. one) (λ stopped. omega arith)

hear_heard : (c : Config) (p q : ℕ) (ms : List Moment) (allows : Field → Bool) (ws : List Written) → CountOne q (said ms) (heard_moment c p ms allows ws).says
hear_heard c p q ms allows [] = omega arith
hear_heard c p q ms allows (Own b ∷ ws) = bundle_one q (said ms) (facts_with c ms) (length c.types) allows p b
hear_heard c p q ms allows (Raw b ∷ ws) = bundle_one q (said ms) (facts_with c ms) (length c.types) allows p b
hear_heard c p q ms allows (Said says ∷ ws) = omega arith

moment_heard : (c : Config) (ms : List Moment) (allows : Field → Bool) (s : Step) (q : ℕ) → CountOne q (said ms) (moment c ms allows s).says
moment_heard c ms allows (Act p action) q = omega arith
moment_heard c ms allows (Take p) q = running_heard c p.0 q ms (taken_moment c p.0 ms (bundles_waiting (events_of p.0 ms))) (take_heard c p.0 q ms (bundles_waiting (events_of p.0 ms)))
moment_heard c ms allows (RawStep p b) q = running_heard c p.0 q ms (raw_moment p.0 b) (omega arith)
moment_heard c ms allows (ParentAct action) q = action_one q (said ms) (facts_with c ms) (length c.types) action
moment_heard c ms allows (Hear p) q = hear_heard c p.0 q ms allows (writes_waiting (events_of p.0 ms))

none_heard : (p : ℕ) → commits_heard p [] ≡ 0
unfolding commits_heard
none_heard p = refl

pub heard_count : (c : Config) (j : Journal) (p : ℕ) → commits_heard p (said (moments_of c j)) ≤ length j
unfolding moments_of
heard_count c [] p = omega (arith, none_heard p)
heard_count c (e ∷ j) p = omega (arith, moment_heard c (moments_of c j) (told_allowed e.answer) e.step p, heard_count c j p)
