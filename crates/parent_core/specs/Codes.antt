-- How what is kept is coded.
use Rattle.std.specs.Prelude.{ℕ, List, refl}
use Rattle.std.specs.Coded.{Coded, code_by, coded×, coded_list, coded_ℕ}
use Rattle.fission_ids.specs.declared.context.ContextId.{ContextId}
use Rattle.fission_ids.specs.contracts.context.ContextId as context
use Rattle.context_tree.specs.Node.{Node, node_code}
use Rattle.context_group.specs.declared.group.Group.{Group}
use Rattle.context_group.specs.contracts.group.Group as group
use Rattle.context_store.specs.Content.{Content, content_code}
use Rattle.wire_msgs.specs.declared.config.Config.{Config}
use Rattle.wire_msgs.specs.contracts.config.Config as config
use Rattle.wire_msgs.specs.declared.cause.EndCause.{EndCause}
use Rattle.wire_msgs.specs.contracts.cause.EndCause as cause
use Rattle.parent_core.specs.declared.origin.Origin.{Origin}
use Rattle.parent_core.specs.contracts.origin.Origin as origin
use Rattle.parent_core.specs.Parent.{Counted, End, Kept}

-- the counts of a process are coded as a pair
abbrev pub counted_code : Coded Counted
counted_code =
    code_by
    (ℕ × ℕ)
    (coded× coded_ℕ coded_ℕ)
    (λ c. (c.heard, c.sent))
    (λ p. record { heard = p.0; sent = p.1 })
    (λ _. refl)

-- an end as a pair
abbrev pub end_code : Coded End
end_code =
    code_by
    (ℕ × EndCause)
    (coded× coded_ℕ cause.the_row.coded)
    (λ e. (e.process, e.cause))
    (λ p. record { process = p.0; cause = p.1 })
    (λ _. refl)

-- what is kept of the contexts
abbrev pub Made : Type 0
Made = List Node × (Content × List (ContextId × Origin))

abbrev pub made_code : Coded Made
made_code =
    coded× (coded_list node_code)
    (coded× content_code (coded_list (coded× context.the_row.coded origin.the_row.coded)))

-- and of the groups and processes, and the count of the tabs
abbrev pub Told : Type 0
Told = List Group × (List Counted × (List End × ℕ))

abbrev pub told_code : Coded Told
told_code =
    coded× (coded_list group.the_row.coded)
    (coded× (coded_list counted_code) (coded× (coded_list end_code) coded_ℕ))

-- what is kept is coded as its parts
abbrev pub kept_code : Coded Kept
kept_code =
    code_by
    (Config × (Made × Told))
    (coded× config.the_row.coded (coded× made_code told_code))
    (λ k. (k.config, ((k.nodes, (k.contexts, k.origins)), (k.groups, (k.processes, (k.ends, k.tabs))))))
    (λ p. record {
      config = p.0;
      nodes = p.1.0.0;
      contexts = p.1.0.1.0;
      origins = p.1.0.1.1;
      groups = p.1.1.0;
      processes = p.1.1.1.0;
      ends = p.1.1.1.1.0;
      tabs = p.1.1.1.1.1;
    })
    (λ _. refl)
