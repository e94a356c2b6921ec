-- One saying, or one doing, more does to all answers by looking back what it does to answers.
use Rattle.std.proofs.Common.{◌≡◌, ℕ, Bool, true, false, if◌then◌else◌, Some, List, ◌∷◌, refl}
use Rattle.wire_msgs.specs.declared.config.StartTab.{StartTab}
use Rattle.protocol.specs.Sayings.{Saying}
use Rattle.protocol.specs.Sayings.Saying.{Opened, Made, BornDead, Removed, Wrote, Acked, Subscribed, Counted, Sent, Ended}
use Rattle.protocol.specs.FactsAfter.{facts_after}
use Rattle.protocol.specs.Seen.{Seen, Doing}
use Rattle.protocol.specs.Seen.Doing.{Came, Framed, Went, Given, Disowned, Took, Stopped}
use Rattle.protocol.specs.SeenAfter.{seen_after, with_context}
use Rattle.field_table.specs.Table.{value_in}
use Rattle.protocol.specs.Take.{may_come}
use Rattle.model.specs.Parent.{asked, known, group, above, under, live, owner, value, order, groups_made, subscribers, keeping, commits_heard, bundles_sent, ended, tabs_made}
use Rattle.model.specs.Process.{own_asked, running, commits, taken, frames_made}
use Rattle.model.specs.Process as own

pub asked_more : (tabs : List StartTab) (y : Saying) (says : List Saying) → asked tabs (y ∷ says) ≡ facts_after y (asked tabs says)
unfolding facts_after known group above under live owner value order groups_made subscribers keeping commits_heard bundles_sent ended tabs_made
asked_more tabs (Opened x g true p) says = refl
asked_more tabs (Opened x g false p) says = refl
asked_more tabs (Made p x a) says = refl
asked_more tabs (BornDead p x a) says = refl
asked_more tabs (Removed x but) says = refl
asked_more tabs (Wrote x t) says = refl
asked_more tabs (Acked p x) says = refl
asked_more tabs (Subscribed p g) says = refl
asked_more tabs (Counted p) says = refl
asked_more tabs (Sent p) says = refl
asked_more tabs (Ended p cause) says = refl

pub own_asked_more : (tabs : List StartTab) (p : ℕ) (d : Doing) (did : List Doing) → own_asked tabs p (d ∷ did) ≡ seen_after p d (own_asked tabs p did)
unfolding seen_after own.holds own.under own.group own.above own.owns own.value own.newest own.order running commits taken frames_made
own_asked_more tabs p (Came k) did = by (may_come p before k)
  where
    before : Seen
    before = own_asked tabs p did

    came : Seen
    came = with_context k.context (Some k.group) k.parent k.owned (value_in k.fields) before

    -- what is answered, by whether it comes
    one : Bool → Seen
    one b = record before {
      holds = λ x. if b then came.holds x else before.holds x;
      group = λ x. if b then came.group x else before.group x;
      above = λ x. if b then came.above x else before.above x;
      under = λ x z. if b then came.under x z else before.under x z;
      owns = λ x. if b then came.owns x else before.owns x;
      value = λ x f. if b then came.value x f else before.value x f;
      newest = λ x f. if b then came.newest x f else before.newest x f;
      order = if b then came.order else before.order;
    }

    by : (b : Bool) → one b ≡ (if b then came else before)
    by true = refl
    by false = refl
own_asked_more tabs p (Framed x a) did = refl
own_asked_more tabs p (Went x) did = refl
own_asked_more tabs p (Disowned x) did = refl
own_asked_more tabs p (Given x t) did = refl
own_asked_more tabs p Took did = refl
own_asked_more tabs p Stopped did = refl
own_asked_more tabs p (_) did = refl
