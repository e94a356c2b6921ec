use Rattle.std.proofs.Common.{◌≡◌, ap, sym, ◌∙◌, string_bytes, rules}
use Rattle.std.proofs.lemmas.Result.{err_from_is_err_and}
use Rattle.fission_ids.specs.Gives.{FailsWith}
use Rattle.serde_json.specs.View.{view, members_view}
use Rattle.serde_json.proofs.Views.{Entry}
use Rattle.scenario.specs.Faults.{is_memory}
use Rattle.scenario.specs.Reading.{named_change, named_changes}
use Rattle.scenario.proofs.Changes.{put_in, all_put, put_step, put_fails, put_end}
use Rattle.scenario.proofs.fields.changes_of.Goals as goal

pub loop-key-init : goal.loop-key-init
loop-key-init c =
    let start : c.into_iter-key-iterator.result ≡ c.args.members.now.entries = search rules in
    ap (λ t. put_in c.args.place t c.into_iter-key-iterator.result) c.new-changes.ensures ∙ rw start (all_put c.args.place c.args.members.now.entries c.iter-key-items.ensures.ordered)

pub returns-in_err-f : goal.returns-in_err-f
returns-in_err-f c =
    let p = err_from_is_err_and c.from_residual.result c.from_residual.ensures.1 in
    let e : Entry = (c.in-Some.key.now, c.in-Some.v.now) in
    let key : c.as_str.result.now ≡ string_bytes c.in-Some.key.now = search rules in
    let read : FailsWith (is_memory c.in_err-f.field-0.0) c.in_err-f.field-0.0 (named_change c.args.place (string_bytes c.in-Some.key.now) (view c.in-Some.v.now)) = rw (sym key) c.in_err-f.ensures.exact in
    let total = named_changes c.args.place (members_view c.args.members.now.entries) in
    rw (p.1, p.2) (put_fails c.in_err-f.field-0.0 c.args.place c.loop-key.changes e c.next.new.self c.loop-key.key-iterator total c.in-Some.ensures.steps read c.loop-key.invariant)

pub loop-key-preserved : goal.loop-key-preserved
loop-key-preserved c =
    let e : Entry = (c.in-Some.key.now, c.in-Some.v.now) in
    let key : c.as_str.result.now ≡ string_bytes c.in-Some.key.now = search rules in
    let read = ap (λ k. named_change c.args.place k (view c.in-Some.v.now)) (sym key) ∙ c.in_ok-f.ensures.exact in
    let total = named_changes c.args.place (members_view c.args.members.now.entries) in
    rw c.set.ensures.whole (put_step c.args.place c.loop-key.changes e c.next.new.self c.loop-key.key-iterator c.in_ok-f.f c.in_ok-f.value total c.in-Some.ensures.steps read c.loop-key.invariant)

pub returns : goal.returns
returns c = put_end c.args.place c.loop-key.changes c.loop-key.key-iterator (named_changes c.args.place (members_view c.args.members.now.entries)) c.in-None.ensures.steps.0 c.loop-key.invariant
