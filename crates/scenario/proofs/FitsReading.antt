-- What holds of each scenario that is read.
use Rattle.std.proofs.Common.{◌≡◌, ℕ, suc, ◌+◌, ◌<◌, ◌≤◌, Bool, true, false, ◌&&◌, cond, ltb, leb, nat_eq, lit≤, List, [], ◌∷◌, length, Option, Some, Result, Ok, Err, refl, ap, subst, arith}
use Rattle.std.specs.Prelude.{IfOk, codes, option_and_then}
use Rattle.std.specs.List.{AllByRecursion}
use Rattle.std.proofs.lemmas.Bool.{ltb-true, leb-true}
use Rattle.serde_json.specs.Data.{Data, Items, no_items, item}
use Rattle.serde_json.specs.Events.{items_len}
use Rattle.serde_json.specs.Find.{get, as_str, as_array}
use Rattle.fission_ids.specs.declared.process.ProcId.{ProcId}
use Rattle.fission_ids.specs.declared.process.ProcSet.{ProcSet}
use Rattle.fission_ids.specs.ProcSet.{has}
use Rattle.fission_ids.specs.declared.context.ContextId.{ContextId}
use Rattle.fission_ids.specs.declared.group.GroupId.{GroupId}
use Rattle.field_table.specs.declared.field.Field.{Field}
use Rattle.transaction.specs.Transaction.{Changes}
use Rattle.wire_msgs.specs.declared.config.StartTab.{StartTab}
use Rattle.wire_msgs.specs.Config.{is_remote_type, IsRemoteType, TabFits}
use Rattle.wire_msgs.specs.declared.action.Action.TheVariants as own
use Rattle.wire_msgs.specs.declared.action.ParentAction.TheVariants as parents
use Rattle.wire_msgs.specs.declared.part.UpPart.{UpPart}
use Rattle.wire_msgs.specs.declared.part.UpPart.TheVariants as ups
use Rattle.protocol.specs.Played.{IsPlayed, ArePlayed}
use Rattle.journal.specs.Step.{StepFits}
use Rattle.journal.specs.declared.entry.Step.TheVariants as steps
use Rattle.scenario.specs.declared.fault.ReadFault.{ReadFault}
use Rattle.scenario.specs.declared.fault.ReadFault.TheVariants.{Shape}
use Rattle.scenario.specs.declared.line.Actor.{Actor}
use Rattle.scenario.specs.declared.line.Actor.TheVariants as actors
use Rattle.scenario.specs.declared.line.Show.TheVariants as shows
use Rattle.scenario.specs.declared.line.Line.{Line}
use Rattle.scenario.specs.declared.line.Line.TheVariants as lines
use Rattle.scenario.specs.declared.line.Scenario.{Scenario}
use Rattle.fission_ids.specs.Gives.{Gives}
use Rattle.scenario.specs.Faults.{is_memory, ◌>>=◌, asks, or_shape}
use Rattle.scenario.specs.declared.members.Kind.TheVariants as kinds
use Rattle.scenario.specs.Members.{allows, has_only, is_text, whole_number}
use Rattle.scenario.specs.Reading.{type_of, types_of, processes_of, process_of, items_in, process_numbers, all_differ, are_others, proc_set_of, also_of, start_tab_of, start_tabs_of, context_at, transaction_of, write_of, set_line, take_line, hear_line, frame_line, drop_line, discard_line, group_at, group_named, tab_line, subscribe_line, kill_line, commit_part, create_part, context_part, drop_part, ack_part, raw_part, raw_parts, parts_of, raw_of, raw_line, settle_line, actor_of, field_of, show_one, show_side, show_line, line_of, lines_of, with_types, scenario_of, or_unread, data_of, reading}
use Rattle.scenario.specs.Fits.{ActorFits, LineFits, Fits}
use Rattle.scenario.proofs.Also.{set_below, set_of_others}

-- the value of a step that did not fail
bind_ok : {A B : Type 0} (r : Result A ReadFault) (f : A → Result B ReadFault) (y : B) → (r >>= f) ≡ Ok y → (x : A) × (r ≡ Ok x) × (f x ≡ Ok y)
bind_ok (Ok x) f y e = (x, refl, e)
bind_ok (Err fault) f y e = absurd cc

-- a test that did not fail
asks_ok : {A : Type 0} (place : ℕ) (b : Bool) (rest : Result A ReadFault) (y : A) → asks place b rest ≡ Ok y → (b ≡ true) × (rest ≡ Ok y)
asks_ok place true rest y e = (refl, e)
asks_ok place false rest y e = absurd cc

abbrev done : {A : Type 0} → A → Result A ReadFault
done x = Ok x

ok_is : {A : Type 0} (x y : A) → done x ≡ done y → x ≡ y
ok_is x y e = cc

first_true : (a b : Bool) → (a && b) ≡ true → a ≡ true
first_true true b e = refl
first_true false b e = absurd cc

second_true : (a b : Bool) → (a && b) ≡ true → b ≡ true
second_true true b e = e
second_true false b e = absurd cc

-- one of two ways
either : {A : Type 0} (P : A → Type 0) (b : Bool) (r s : Result A ReadFault) (y : A) → (r ≡ Ok y → P y) → (s ≡ Ok y → P y) → cond b r s ≡ Ok y → P y
either P true r s y first second e = first e
either P false r s y first second e = second e

-- ---- processes and tabs

type_fits : (d : Data) (t : List ℕ) → type_of d ≡ Ok t → IsRemoteType t
unfolding type_of
type_fits d t e =
    let a = bind_ok (or_shape 0 (as_str d)) (λ s. asks 0 (is_remote_type s) (Ok s)) t e in
    let b = asks_ok 0 (is_remote_type a.0) (Ok a.0) t a.2 in
    subst (λ (s : List ℕ). IsRemoteType s) (ok_is a.0 t b.1) b.0

-- the remote types of the items
record TypesFit (ds : Items) (ts : List (List ℕ)) : Type 0 where
  all : AllByRecursion IsRemoteType ts
  len : length ts ≡ items_len ds

types_fit : (ds : Items) (ts : List (List ℕ)) → types_of ds ≡ Ok ts → TypesFit ds ts
unfolding types_of
types_fit no_items ts e = subst (λ (y : List (List ℕ)). TypesFit no_items y) (ok_is [] ts e) (record { all = tt; len = refl })
types_fit (item d ds) ts e =
    let a = bind_ok (type_of d) (λ t. types_of ds >>= λ more. Ok (t ∷ more)) ts e in
    let b = bind_ok (types_of ds) (λ more. Ok (a.0 ∷ more)) ts a.2 in
    let rest = types_fit ds b.0 b.1 in
    subst (λ (y : List (List ℕ)). TypesFit (item d ds) y) (ok_is (a.0 ∷ b.0) ts b.2) (record { all = (type_fits d a.0 a.1, rest.all); len = ap suc rest.len })

-- 1 to 16 remote types
record ProcessesFit (ts : List (List ℕ)) : Type 0 where
  some : 0 < length ts
  few : length ts ≤ 16
  all : AllByRecursion IsRemoteType ts

processes_fit : (found : Option Data) (ts : List (List ℕ)) → processes_of found ≡ Ok ts → ProcessesFit ts
unfolding processes_of
processes_fit found ts e =
    let a = bind_ok (or_shape 0 (option_and_then as_array found)) (λ ds. asks 0 (ltb 0 (items_len ds) && leb (items_len ds) 16) (types_of ds)) ts e in
    let b = asks_ok 0 (ltb 0 (items_len a.0) && leb (items_len a.0) 16) (types_of a.0) ts a.2 in
    let fit = types_fit a.0 ts b.1 in
    record {
      some = omega (arith, fit.len, ltb-true 0 (items_len a.0) (first_true (ltb 0 (items_len a.0)) (leb (items_len a.0) 16) b.0));
      few = omega (arith, fit.len, leb-true (items_len a.0) 16 (second_true (ltb 0 (items_len a.0)) (leb (items_len a.0) 16) b.0));
      all = fit.all;
    }

process_below : (place n : ℕ) (found : Option Data) (p : ProcId) → process_of place n found ≡ Ok p → p.0 < n
unfolding process_of
process_below place n found p e =
    let a = bind_ok (or_shape place (whole_number found)) (λ q. asks place (ltb q n) (Ok (record { 0 = q }))) p e in
    let b = asks_ok place (ltb a.0 n) (Ok (record { 0 = a.0 })) p a.2 in
    subst (λ (q : ProcId). q.0 < n) (ok_is (record { 0 = a.0 }) p b.1) (ltb-true a.0 n b.0)

numbers_below : (place n : ℕ) (ds : Items) (ps : List ProcId) → process_numbers place n ds ≡ Ok ps → AllByRecursion (λ p. p.0 < n) ps
unfolding process_numbers
numbers_below place n no_items ps e = subst (λ (y : List ProcId). AllByRecursion (λ p. p.0 < n) y) (ok_is [] ps e) tt
numbers_below place n (item d ds) ps e =
    let a = bind_ok (process_of place n (Some d)) (λ p. process_numbers place n ds >>= λ more. Ok (p ∷ more)) ps e in
    let b = bind_ok (process_numbers place n ds) (λ more. Ok (a.0 ∷ more)) ps a.2 in
    subst (λ (y : List ProcId). AllByRecursion (λ p. p.0 < n) y) (ok_is (a.0 ∷ b.0) ps b.2) (process_below place n (Some d) a.0 a.1, numbers_below place n ds b.0 b.1)

-- the processes that hold a tab beside its owner
record OthersFit (n : ℕ) (owner : ProcId) (s : ProcSet) : Type 0 where
  below : (p : ℕ) → has s p ≡ true → p < n
  others : has s owner.0 ≡ false

also_fits : (place n : ℕ) (owner : ProcId) (ds : Items) (s : ProcSet) → also_of place n owner ds ≡ Ok s → OthersFit n owner s
unfolding also_of
also_fits place n owner ds s e =
    let a = bind_ok (process_numbers place n ds) (λ ps. asks place (are_others owner ps && all_differ ps) (Ok (proc_set_of ps))) s e in
    let b = asks_ok place (are_others owner a.0 && all_differ a.0) (Ok (proc_set_of a.0)) s a.2 in
    subst (λ (y : ProcSet). OthersFit n owner y) (ok_is (proc_set_of a.0) s b.1) (record {
      below = set_below n a.0 (numbers_below place n ds a.0 a.1);
      others = set_of_others owner a.0 (first_true (are_others owner a.0) (all_differ a.0) b.0);
    })

tab_fits : (place n : ℕ) (d : Data) (t : StartTab) → start_tab_of place n d ≡ Ok t → TabFits n t
unfolding start_tab_of
tab_fits place n d t e =
    let tab : ProcId → ProcSet → StartTab = λ owner also. record { owner = owner; also = also } in
    let held : ProcId → Items → Result StartTab ReadFault = λ owner ds. also_of place n owner ds >>= λ also. Ok (tab owner also) in
    let listed = items_in place (get (codes "also") d) in
    let owned = process_of place n (get (codes "owner") d) in
    let a = asks_ok place (has_only (allows kinds.Tab) d) (owned >>= λ owner. listed >>= held owner) t e in
    let owner = bind_ok owned (λ owner. listed >>= held owner) t a.1 in
    let ds = bind_ok listed (held owner.0) t owner.2 in
    let also = bind_ok (also_of place n owner.0 ds.0) (λ also. Ok (tab owner.0 also)) t ds.2 in
    let fit = also_fits place n owner.0 ds.0 also.0 also.1 in
    subst (λ (y : StartTab). TabFits n y) (ok_is (tab owner.0 also.0) t also.2) (record {
      owner = process_below place n (get (codes "owner") d) owner.0 owner.1;
      also = fit.below;
      others = fit.others;
    })

-- the tabs of the items
record TabsFit (n : ℕ) (ds : Items) (ts : List StartTab) : Type 0 where
  all : AllByRecursion (TabFits n) ts
  len : length ts ≡ items_len ds

tabs_fit : (place n : ℕ) (ds : Items) (ts : List StartTab) → start_tabs_of place n ds ≡ Ok ts → TabsFit n ds ts
unfolding start_tabs_of
tabs_fit place n no_items ts e = subst (λ (y : List StartTab). TabsFit n no_items y) (ok_is [] ts e) (record { all = tt; len = refl })
tabs_fit place n (item d ds) ts e =
    let a = bind_ok (start_tab_of place n d) (λ t. start_tabs_of (place + 1) n ds >>= λ more. Ok (t ∷ more)) ts e in
    let b = bind_ok (start_tabs_of (place + 1) n ds) (λ more. Ok (a.0 ∷ more)) ts a.2 in
    let rest = tabs_fit (place + 1) n ds b.0 b.1 in
    subst (λ (y : List StartTab). TabsFit n (item d ds) y) (ok_is (a.0 ∷ b.0) ts b.2) (record { all = (tab_fits place n d a.0 a.1, rest.all); len = ap suc rest.len })

-- ---- steps

actor_fits : (place n : ℕ) (found : Option Data) (who : Actor) → actor_of place n found ≡ Ok who → ActorFits n who
unfolding actor_of
actor_fits place n found who e =
    let read = process_of place n found >>= λ p. Ok (actors.Process p) in
    let second : read ≡ Ok who → ActorFits n who = λ h.
    let p = bind_ok (process_of place n found) (λ p. Ok (actors.Process p)) who h in
    subst (λ (y : Actor). ActorFits n y) (ok_is (actors.Process p.0) who p.2) (process_below place n found p.0 p.1) in
    either (ActorFits n) (is_text (codes "parent") found) (Ok actors.Parent) read who (λ h. subst (λ (y : Actor). ActorFits n y) (ok_is actors.Parent who h) tt) second e

write_fits : (n : ℕ) (who : Actor) (x : ContextId) (t : Changes) → ActorFits n who → StepFits n (write_of who x t)
write_fits n actors.Parent x t fit = tt
write_fits n (actors.Process p) x t fit = record { process = fit; played = tt }

set_fits : (place n : ℕ) (d : Data) (l : Line) → set_line place n d ≡ Ok l → LineFits n l
unfolding set_line
set_fits place n d l e =
    let at = get (codes "at") d in
    let found = context_at place (get (codes "context") d) in
    let changed = transaction_of place (get (codes "fields") d) in
    let written : Actor → ContextId → Changes → Result Line ReadFault = λ who x t. Ok (lines.Step (write_of who x t)) in
    let read : Actor → ContextId → Result Line ReadFault = λ who x. changed >>= written who x in
    let a = asks_ok place (has_only (allows kinds.Set) d) (actor_of place n at >>= λ who. found >>= read who) l e in
    let who = bind_ok (actor_of place n at) (λ who. found >>= read who) l a.1 in
    let x = bind_ok found (read who.0) l who.2 in
    let t = bind_ok changed (written who.0 x.0) l x.2 in
    subst (λ (y : Line). LineFits n y) (ok_is (lines.Step (write_of who.0 x.0 t.0)) l t.2) (write_fits n who.0 x.0 t.0 (actor_fits place n at who.0 who.1))

take_fits : (place n : ℕ) (d : Data) (l : Line) → take_line place n d ≡ Ok l → LineFits n l
unfolding take_line
take_fits place n d l e =
    let at = get (codes "at") d in
    let a = asks_ok place (has_only (allows kinds.Take) d) (process_of place n at >>= λ p. Ok (lines.Step (steps.Take p))) l e in
    let p = bind_ok (process_of place n at) (λ p. Ok (lines.Step (steps.Take p))) l a.1 in
    subst (λ (y : Line). LineFits n y) (ok_is (lines.Step (steps.Take p.0)) l p.2) (process_below place n at p.0 p.1)

hear_fits : (place n : ℕ) (d : Data) (l : Line) → hear_line place n d ≡ Ok l → LineFits n l
unfolding hear_line
hear_fits place n d l e =
    let from = get (codes "from") d in
    let heard = process_of place n from >>= λ p. Ok (lines.Step (steps.Hear p)) in
    let a = asks_ok place (has_only (allows kinds.Hear) d) (asks place (is_text (codes "parent") (get (codes "at") d)) heard) l e in
    let b = asks_ok place (is_text (codes "parent") (get (codes "at") d)) heard l a.1 in
    let p = bind_ok (process_of place n from) (λ p. Ok (lines.Step (steps.Hear p))) l b.1 in
    subst (λ (y : Line). LineFits n y) (ok_is (lines.Step (steps.Hear p.0)) l p.2) (process_below place n from p.0 p.1)

frame_fits : (place n : ℕ) (d : Data) (l : Line) → frame_line place n d ≡ Ok l → LineFits n l
unfolding frame_line
frame_fits place n d l e =
    let at = get (codes "at") d in
    let found = context_at place (get (codes "context") d) in
    let frame : ProcId → ContextId → Line = λ p x. lines.Step (steps.Act p (own.Frame x)) in
    let framed : ProcId → Result Line ReadFault = λ p. found >>= λ x. Ok (frame p x) in
    let a = asks_ok place (has_only (allows kinds.OneContext) d) (process_of place n at >>= framed) l e in
    let p = bind_ok (process_of place n at) framed l a.1 in
    let x = bind_ok found (λ x. Ok (frame p.0 x)) l p.2 in
    subst (λ (y : Line). LineFits n y) (ok_is (frame p.0 x.0) l x.2) (record { process = process_below place n at p.0 p.1; played = tt })

drop_fits : (place n : ℕ) (d : Data) (l : Line) → drop_line place n d ≡ Ok l → LineFits n l
unfolding drop_line
drop_fits place n d l e =
    let at = get (codes "at") d in
    let found = context_at place (get (codes "context") d) in
    let drop : ProcId → ContextId → Line = λ p x. lines.Step (steps.Act p (own.Drop x)) in
    let dropped : ProcId → Result Line ReadFault = λ p. found >>= λ x. Ok (drop p x) in
    let a = asks_ok place (has_only (allows kinds.OneContext) d) (process_of place n at >>= dropped) l e in
    let p = bind_ok (process_of place n at) dropped l a.1 in
    let x = bind_ok found (λ x. Ok (drop p.0 x)) l p.2 in
    subst (λ (y : Line). LineFits n y) (ok_is (drop p.0 x.0) l x.2) (record { process = process_below place n at p.0 p.1; played = tt })

discard_fits : (place n : ℕ) (d : Data) (l : Line) → discard_line place d ≡ Ok l → LineFits n l
unfolding discard_line
discard_fits place n d l e =
    let found = context_at place (get (codes "context") d) in
    let discard : ContextId → Line = λ x. lines.Step (steps.ParentAct (parents.Discard x)) in
    let discarded = found >>= λ x. Ok (discard x) in
    let a = asks_ok place (has_only (allows kinds.OneContext) d) (asks place (is_text (codes "parent") (get (codes "at") d)) discarded) l e in
    let b = asks_ok place (is_text (codes "parent") (get (codes "at") d)) discarded l a.1 in
    let x = bind_ok found (λ x. Ok (discard x)) l b.1 in
    subst (λ (y : Line). LineFits n y) (ok_is (discard x.0) l x.2) tt

tab_line_fits : (place n : ℕ) (d : Data) (l : Line) → tab_line place n d ≡ Ok l → LineFits n l
unfolding tab_line
tab_line_fits place n d l e =
    let owner = get (codes "owner") d in
    let found = group_named place (get (codes "group") d) in
    let tab : ProcId → Option GroupId → Line = λ p g. lines.Step (steps.ParentAct (parents.Tab p g)) in
    let opened : ProcId → Result Line ReadFault = λ p. found >>= λ g. Ok (tab p g) in
    let a = asks_ok place (has_only (allows kinds.OpenTab) d) (asks place (is_text (codes "parent") (get (codes "at") d)) (process_of place n owner >>= opened)) l e in
    let b = asks_ok place (is_text (codes "parent") (get (codes "at") d)) (process_of place n owner >>= opened) l a.1 in
    let p = bind_ok (process_of place n owner) opened l b.1 in
    let g = bind_ok found (λ g. Ok (tab p.0 g)) l p.2 in
    subst (λ (y : Line). LineFits n y) (ok_is (tab p.0 g.0) l g.2) (process_below place n owner p.0 p.1)

subscribe_fits : (place n : ℕ) (d : Data) (l : Line) → subscribe_line place n d ≡ Ok l → LineFits n l
unfolding subscribe_line
subscribe_fits place n d l e =
    let process = get (codes "process") d in
    let found = group_at place (get (codes "group") d) in
    let subscribe : ProcId → GroupId → Line = λ p g. lines.Step (steps.ParentAct (parents.Subscribe p g)) in
    let joined : ProcId → Result Line ReadFault = λ p. found >>= λ g. Ok (subscribe p g) in
    let a = asks_ok place (has_only (allows kinds.Subscribe) d) (asks place (is_text (codes "parent") (get (codes "at") d)) (process_of place n process >>= joined)) l e in
    let b = asks_ok place (is_text (codes "parent") (get (codes "at") d)) (process_of place n process >>= joined) l a.1 in
    let p = bind_ok (process_of place n process) joined l b.1 in
    let g = bind_ok found (λ g. Ok (subscribe p.0 g)) l p.2 in
    subst (λ (y : Line). LineFits n y) (ok_is (subscribe p.0 g.0) l g.2) (process_below place n process p.0 p.1)

kill_fits : (place n : ℕ) (d : Data) (l : Line) → kill_line place n d ≡ Ok l → LineFits n l
unfolding kill_line
kill_fits place n d l e =
    let process = get (codes "process") d in
    let kill : ProcId → Line = λ p. lines.Step (steps.ParentAct (parents.Kill p)) in
    let ended = process_of place n process >>= λ p. Ok (kill p) in
    let a = asks_ok place (has_only (allows kinds.Kill) d) (asks place (is_text (codes "parent") (get (codes "at") d)) ended) l e in
    let b = asks_ok place (is_text (codes "parent") (get (codes "at") d)) ended l a.1 in
    let p = bind_ok (process_of place n process) (λ p. Ok (kill p)) l b.1 in
    subst (λ (y : Line). LineFits n y) (ok_is (kill p.0) l p.2) (process_below place n process p.0 p.1)

commit_part_fits : (place : ℕ) (d : Data) (part : UpPart) → commit_part place d ≡ Ok part → IsPlayed part
unfolding commit_part
commit_part_fits place d part e =
    let found = context_at place (get (codes "context") d) in
    let changed = transaction_of place (get (codes "fields") d) in
    let commit : ContextId → Changes → UpPart = λ x t. ups.Commit x t in
    let read : ContextId → Result UpPart ReadFault = λ x. changed >>= λ t. Ok (commit x t) in
    let a = asks_ok place (has_only (allows kinds.CommitPart) d) (found >>= read) part e in
    let x = bind_ok found read part a.1 in
    let t = bind_ok changed (λ t. Ok (commit x.0 t)) part x.2 in
    subst (λ (y : UpPart). IsPlayed y) (ok_is (commit x.0 t.0) part t.2) tt

create_part_fits : (place : ℕ) (d : Data) (part : UpPart) → create_part place d ≡ Ok part → IsPlayed part
unfolding create_part
create_part_fits place d part e =
    let found = context_at place (get (codes "context") d) in
    let named = context_at place (get (codes "parent") d) in
    let create : ContextId → ContextId → UpPart = λ x above. ups.Create x above in
    let read : ContextId → Result UpPart ReadFault = λ x. named >>= λ above. Ok (create x above) in
    let a = asks_ok place (has_only (allows kinds.CreatePart) d) (found >>= read) part e in
    let x = bind_ok found read part a.1 in
    let above = bind_ok named (λ above. Ok (create x.0 above)) part x.2 in
    subst (λ (y : UpPart). IsPlayed y) (ok_is (create x.0 above.0) part above.2) tt

drop_part_fits : (place : ℕ) (d : Data) (part : UpPart) → drop_part place d ≡ Ok part → IsPlayed part
unfolding drop_part
drop_part_fits place d part e =
    let drop : ContextId → UpPart = λ x. ups.Drop x in
    let x = bind_ok (context_part place d) (λ x. Ok (drop x)) part e in
    subst (λ (y : UpPart). IsPlayed y) (ok_is (drop x.0) part x.2) tt

ack_part_fits : (place : ℕ) (d : Data) (part : UpPart) → ack_part place d ≡ Ok part → IsPlayed part
unfolding ack_part
ack_part_fits place d part e =
    let ack : ContextId → UpPart = λ x. ups.DropAck x in
    let x = bind_ok (context_part place d) (λ x. Ok (ack x)) part e in
    subst (λ (y : UpPart). IsPlayed y) (ok_is (ack x.0) part x.2) tt

part_fits : (place : ℕ) (d : Data) (part : UpPart) → raw_part place d ≡ Ok part → IsPlayed part
unfolding raw_part
part_fits place d part e =
    let named = get (codes "part") d in
    let ack = cond (is_text (codes "ack") named) (ack_part place d) (Err (Shape place)) in
    let drop = cond (is_text (codes "drop") named) (drop_part place d) ack in
    let create = cond (is_text (codes "create") named) (create_part place d) drop in
    let none : Err (Shape place) ≡ Ok part → IsPlayed part = λ h. absurd cc in
    let acked : ack ≡ Ok part → IsPlayed part = either IsPlayed (is_text (codes "ack") named) (ack_part place d) (Err (Shape place)) part (ack_part_fits place d part) none in
    let dropped : drop ≡ Ok part → IsPlayed part = either IsPlayed (is_text (codes "drop") named) (drop_part place d) ack part (drop_part_fits place d part) acked in
    let created : create ≡ Ok part → IsPlayed part = either IsPlayed (is_text (codes "create") named) (create_part place d) drop part (create_part_fits place d part) dropped in
    either IsPlayed (is_text (codes "commit") named) (commit_part place d) create part (commit_part_fits place d part) created e

parts_fit : (place : ℕ) (ds : Items) (parts : List UpPart) → raw_parts place ds ≡ Ok parts → ArePlayed parts
unfolding raw_parts
parts_fit place no_items parts e = subst (λ (y : List UpPart). ArePlayed y) (ok_is [] parts e) tt
parts_fit place (item d ds) parts e =
    let a = bind_ok (raw_part place d) (λ part. raw_parts place ds >>= λ more. Ok (part ∷ more)) parts e in
    let b = bind_ok (raw_parts place ds) (λ more. Ok (a.0 ∷ more)) parts a.2 in
    subst (λ (y : List UpPart). ArePlayed y) (ok_is (a.0 ∷ b.0) parts b.2) (part_fits place d a.0 a.1, parts_fit place ds b.0 b.1)

bundle_fits : (place : ℕ) (found : Option Data) (parts : List UpPart) → parts_of place found ≡ Ok parts → ArePlayed parts
unfolding parts_of
bundle_fits place found parts e =
    let a = bind_ok (or_shape place (option_and_then as_array found)) (λ ds. asks place (ltb 0 (items_len ds) && leb (items_len ds) 16) (raw_parts place ds)) parts e in
    let b = asks_ok place (ltb 0 (items_len a.0) && leb (items_len a.0) 16) (raw_parts place a.0) parts a.2 in
    parts_fit place a.0 parts b.1

raw_fits : (place n : ℕ) (d : Data) (l : Line) → raw_line place n d ≡ Ok l → LineFits n l
unfolding raw_line
raw_fits place n d l e =
    let at = get (codes "at") d in
    let told = or_shape place (whole_number (get (codes "epoch") d)) in
    let taken = or_shape place (whole_number (get (codes "seen") d)) in
    let found = get (codes "parts") d in
    let raw : ProcId → ℕ → ℕ → List UpPart → Line = λ p epoch seen parts. lines.Step (raw_of p epoch seen parts) in
    let seen_by : ProcId → ℕ → ℕ → Result Line ReadFault = λ p epoch seen. parts_of place found >>= λ parts. Ok (raw p epoch seen parts) in
    let sent_by : ProcId → ℕ → Result Line ReadFault = λ p epoch. taken >>= seen_by p epoch in
    let a = asks_ok place (has_only (allows kinds.Raw) d) (process_of place n at >>= λ p. told >>= sent_by p) l e in
    let p = bind_ok (process_of place n at) (λ p. told >>= sent_by p) l a.1 in
    let epoch = bind_ok told (sent_by p.0) l p.2 in
    let seen = bind_ok taken (seen_by p.0 epoch.0) l epoch.2 in
    let parts = bind_ok (parts_of place found) (λ parts. Ok (raw p.0 epoch.0 seen.0 parts)) l seen.2 in
    subst (λ (y : Line). LineFits n y) (ok_is (raw p.0 epoch.0 seen.0 parts.0) l parts.2) (record { process = process_below place n at p.0 p.1; parts = bundle_fits place found parts.0 parts.1 })

settle_fits : (place n : ℕ) (d : Data) (l : Line) → settle_line place d ≡ Ok l → LineFits n l
unfolding settle_line
settle_fits place n d l e =
    let a = asks_ok place (has_only (allows kinds.Settle) d) (Ok lines.Settle) l e in
    subst (λ (y : Line). LineFits n y) (ok_is lines.Settle l a.1) tt

one_fits : (place n : ℕ) (d : Data) (l : Line) → show_one place n d ≡ Ok l → LineFits n l
unfolding show_one
one_fits place n d l e =
    let at = get (codes "at") d in
    let show : Actor → ContextId → Field → Line = λ who x f. lines.Show (shows.One who x f) in
    let named : Actor → ContextId → Result Line ReadFault = λ who x. field_of place (get (codes "field") d) >>= λ f. Ok (show who x f) in
    let found = context_at place (get (codes "context") d) in
    let a = asks_ok place (has_only (allows kinds.ShowOne) d) (actor_of place n at >>= λ who. found >>= named who) l e in
    let who = bind_ok (actor_of place n at) (λ who. found >>= named who) l a.1 in
    let x = bind_ok found (named who.0) l who.2 in
    let f = bind_ok (field_of place (get (codes "field") d)) (λ f. Ok (show who.0 x.0 f)) l x.2 in
    subst (λ (y : Line). LineFits n y) (ok_is (show who.0 x.0 f.0) l f.2) (actor_fits place n at who.0 who.1)

side_fits : (place n : ℕ) (d : Data) (l : Line) → show_side place n d ≡ Ok l → LineFits n l
unfolding show_side
side_fits place n d l e =
    let at = get (codes "at") d in
    let side : Actor → Line = λ who. lines.Show (shows.Side who) in
    let who = bind_ok (actor_of place n at) (λ who. Ok (side who)) l e in
    subst (λ (y : Line). LineFits n y) (ok_is (side who.0) l who.2) (actor_fits place n at who.0 who.1)

show_fits : (place n : ℕ) (d : Data) (l : Line) → show_line place n d ≡ Ok l → LineFits n l
unfolding show_line
show_fits place n d l e =
    let parts = cond (has_only (allows kinds.ShowSide) d) (show_side place n d) (show_one place n d) in
    let some : parts ≡ Ok l → LineFits n l = either (LineFits n) (has_only (allows kinds.ShowSide) d) (show_side place n d) (show_one place n d) l (side_fits place n d l) (one_fits place n d l) in
    either (LineFits n) (has_only (allows kinds.ShowAll) d) (Ok (lines.Show shows.All)) parts l (λ h. subst (λ (y : Line). LineFits n y) (ok_is (lines.Show shows.All) l h) tt) some e

line_fits : (place n : ℕ) (d : Data) (l : Line) → line_of place n d ≡ Ok l → LineFits n l
unfolding line_of
line_fits place n d l e =
    let does = get (codes "do") d in
    let show = cond (is_text (codes "show") does) (show_line place n d) (Err (Shape place)) in
    let settle = cond (is_text (codes "settle") does) (settle_line place d) show in
    let raw = cond (is_text (codes "raw") does) (raw_line place n d) settle in
    let kill = cond (is_text (codes "kill") does) (kill_line place n d) raw in
    let subscribe = cond (is_text (codes "subscribe") does) (subscribe_line place n d) kill in
    let tab = cond (is_text (codes "tab") does) (tab_line place n d) subscribe in
    let discard = cond (is_text (codes "discard") does) (discard_line place d) tab in
    let drop = cond (is_text (codes "drop") does) (drop_line place n d) discard in
    let frame = cond (is_text (codes "frame") does) (frame_line place n d) drop in
    let hear = cond (is_text (codes "hear") does) (hear_line place n d) frame in
    let take = cond (is_text (codes "take") does) (take_line place n d) hear in
    let none : Err (Shape place) ≡ Ok l → LineFits n l = λ h. absurd cc in
    let shown : show ≡ Ok l → LineFits n l = either (LineFits n) (is_text (codes "show") does) (show_line place n d) (Err (Shape place)) l (show_fits place n d l) none in
    let settled : settle ≡ Ok l → LineFits n l = either (LineFits n) (is_text (codes "settle") does) (settle_line place d) show l (settle_fits place n d l) shown in
    let sent : raw ≡ Ok l → LineFits n l = either (LineFits n) (is_text (codes "raw") does) (raw_line place n d) settle l (raw_fits place n d l) settled in
    let ended : kill ≡ Ok l → LineFits n l = either (LineFits n) (is_text (codes "kill") does) (kill_line place n d) raw l (kill_fits place n d l) sent in
    let subscribed : subscribe ≡ Ok l → LineFits n l = either (LineFits n) (is_text (codes "subscribe") does) (subscribe_line place n d) kill l (subscribe_fits place n d l) ended in
    let opened : tab ≡ Ok l → LineFits n l = either (LineFits n) (is_text (codes "tab") does) (tab_line place n d) subscribe l (tab_line_fits place n d l) subscribed in
    let discarded : discard ≡ Ok l → LineFits n l = either (LineFits n) (is_text (codes "discard") does) (discard_line place d) tab l (discard_fits place n d l) opened in
    let dropped : drop ≡ Ok l → LineFits n l = either (LineFits n) (is_text (codes "drop") does) (drop_line place n d) discard l (drop_fits place n d l) discarded in
    let framed : frame ≡ Ok l → LineFits n l = either (LineFits n) (is_text (codes "frame") does) (frame_line place n d) drop l (frame_fits place n d l) dropped in
    let heard : hear ≡ Ok l → LineFits n l = either (LineFits n) (is_text (codes "hear") does) (hear_line place n d) frame l (hear_fits place n d l) framed in
    let taken : take ≡ Ok l → LineFits n l = either (LineFits n) (is_text (codes "take") does) (take_line place n d) hear l (take_fits place n d l) heard in
    either (LineFits n) (is_text (codes "set") does) (set_line place n d) take l (set_fits place n d l) taken e

-- the steps from a place on
record LinesFit (place n : ℕ) (ls : List Line) : Type 0 where
  all : AllByRecursion (LineFits n) ls
  few : length ls + place ≤ 20001

lines_fit : (place n : ℕ) (ds : Items) (ls : List Line) → place ≤ 20001 → lines_of place n ds ≡ Ok ls → LinesFit place n ls
unfolding lines_of
lines_fit place n no_items ls within e = subst (λ (y : List Line). LinesFit place n y) (ok_is [] ls e) (record { all = tt; few = omega arith })
lines_fit place n (item d ds) ls within e =
    let more : Line → Result (List Line) ReadFault = λ l. lines_of (place + 1) n ds >>= λ ls. Ok (l ∷ ls) in
    let a = asks_ok 20001 (leb place 20000) (line_of place n d >>= more) ls e in
    let b = bind_ok (line_of place n d) more ls a.1 in
    let c = bind_ok (lines_of (place + 1) n ds) (λ more. Ok (b.0 ∷ more)) ls b.2 in
    let room : place ≤ 20000 = leb-true place 20000 a.0 in
    let rest = lines_fit (place + 1) n ds c.0 (omega arith) c.1 in
    subst (λ (y : List Line). LinesFit place n y) (ok_is (b.0 ∷ c.0) ls c.2) (record { all = (line_fits place n d b.0 b.1, rest.all); few = omega (arith, rest.few) })

-- ---- the whole

with_types_fits : (types : List (List ℕ)) (tabs steps : Items) (s : Scenario) → ProcessesFit types → items_len tabs ≤ 64 → with_types types tabs steps ≡ Ok s → Fits s
with_types_fits types tabs steps s fit listed e =
    let made : List StartTab → List Line → Scenario = λ ts ls. record { config = record { types = types; tabs = ts }; lines = ls } in
    let a = bind_ok (start_tabs_of 100001 (length types) tabs) (λ ts. lines_of 1 (length types) steps >>= λ ls. Ok (made ts ls)) s e in
    let b = bind_ok (lines_of 1 (length types) steps) (λ ls. Ok (made a.0 ls)) s a.2 in
    let opened = tabs_fit 100001 (length types) tabs a.0 a.1 in
    let played = lines_fit 1 (length types) steps b.0 (lit≤ tt) b.1 in
    subst (λ (y : Scenario). Fits y) (ok_is (made a.0 b.0) s b.2) (record {
      config = record { some = fit.some; few = fit.few; types = fit.all; few_tabs = omega (arith, opened.len); tabs = opened.all };
      steps = omega (arith, played.few);
      lines = played.all;
    })

scenario_fits : (d : Data) (s : Scenario) → scenario_of d ≡ Ok s → Fits s
unfolding scenario_of
scenario_fits d s e =
    let rest : List (List ℕ) → Items → Result Scenario ReadFault = λ types tabs. or_shape 0 (option_and_then as_array (get (codes "steps") d)) >>= λ steps. with_types types tabs steps in
    let listed : List (List ℕ) → Result Scenario ReadFault = λ types. items_in 0 (get (codes "tabs") d) >>= λ tabs. asks 0 (leb (items_len tabs) 64) (rest types tabs) in
    let begun = processes_of (get (codes "processes") d) >>= listed in
    let versioned = or_shape 0 (whole_number (get (codes "version") d)) >>= λ version. asks 0 (nat_eq version 1) begun in
    let a = asks_ok 0 (has_only (allows kinds.Top) d) versioned s e in
    let version = bind_ok (or_shape 0 (whole_number (get (codes "version") d))) (λ version. asks 0 (nat_eq version 1) begun) s a.1 in
    let b = asks_ok 0 (nat_eq version.0 1) begun s version.2 in
    let types = bind_ok (processes_of (get (codes "processes") d)) listed s b.1 in
    let tabs = bind_ok (items_in 0 (get (codes "tabs") d)) (λ tabs. asks 0 (leb (items_len tabs) 64) (rest types.0 tabs)) s types.2 in
    let few = asks_ok 0 (leb (items_len tabs.0) 64) (rest types.0 tabs.0) s tabs.2 in
    let steps = bind_ok (or_shape 0 (option_and_then as_array (get (codes "steps") d))) (λ steps. with_types types.0 tabs.0 steps) s few.1 in
    with_types_fits types.0 tabs.0 steps.0 s (processes_fit (get (codes "processes") d) types.0 types.1) (leb-true (items_len tabs.0) 64 few.0) steps.2

pub reading_fits : (bytes : List ℕ) (r : Result Scenario ReadFault) → Gives is_memory r (reading bytes) → IfOk r Fits
reading_fits bytes (Ok s) given = let a = bind_ok (or_unread (data_of bytes)) scenario_of s given in scenario_fits a.0 s a.2
reading_fits bytes (Err fault) given = tt
