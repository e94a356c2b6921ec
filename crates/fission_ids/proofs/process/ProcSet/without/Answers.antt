use Rattle.fission_ids.proofs.Members.{bit_at-without}
use Rattle.fission_ids.proofs.process.ProcSet.without.Goals as goal

pub returns-clause-members : goal.returns-clause-members
returns-clause-members c q within = bit_at-without c.args.self.0 c.args.p.0 q c.requires within
