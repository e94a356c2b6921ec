use Rattle.std.proofs.Common.{subst, List, map}
use Rattle.wire_msgs.specs.declared.part.Known.{Known}
use Rattle.protocol.specs.Seen.Doing.{Came}
use Rattle.content_core.specs.Held.{kept_of, DoesAll}
use Rattle.content_core.proofs.Doings.{takes-register, takes-create, takes-discard, takes-kill}
use Rattle.content_core.proofs.held.Held.take_part.Goals as goal

pub returns-in_ok-come_all-in-Register : goal.returns-in_ok-come_all-in-Register
returns-in_ok-come_all-in-Register c =
    takes-register c.args.part.now c.args.e.0 (kept_of c.args.self.now) (kept_of c.come_all.new.self) c.in-Register.group c.in-Register.contexts c.in-Register.is
    (subst (λ (ks : List Known). DoesAll (map Came ks) (kept_of c.args.self.now) (kept_of c.come_all.new.self)) c.as_slice.ensures c.in_ok-come_all-in-Register.ensures)

pub returns-in_ok-mark-in-Create : goal.returns-in_ok-mark-in-Create
returns-in_ok-mark-in-Create c =
    takes-create c.args.part.now c.args.e.0 (kept_of c.args.self.now) (kept_of c.come.new.self) c.in-Create.known c.in_ok-mark-in-Create.mark c.in-Create.is c.in_ok-mark-in-Create.ensures.does c.in_ok-mark-in-Create.ensures.mark

pub returns-in_ok-go-in-Discard : goal.returns-in_ok-go-in-Discard
returns-in_ok-go-in-Discard c =
    takes-discard c.args.part.now c.args.e.0 (kept_of c.args.self.now) (kept_of c.go.new.self) c.in-Discard.context c.in-Discard.is c.in_ok-go-in-Discard.ensures

pub returns-in-Kill : goal.returns-in-Kill
returns-in-Kill c = takes-kill c.args.part.now c.args.e.0 (kept_of c.args.self.now) c.in-Kill.is c.requires.whole
