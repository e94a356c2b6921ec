use Rattle.std.proofs.Common.{◌≡◌, ◌∙◌, ◌+◌, sym, ap, None}
use Rattle.slab.specs.Slab.{Slab, get, slab_len}
use Rattle.context_store.specs.Content.{Stored}
use Rattle.context_store.proofs.Joining.{Updates-reserved, AreJoined-added, joined-added, no_key, one-more}
use Rattle.context_store.proofs.slab_store.SlabStoreStore.add.Goals as goal

pub invariant_of-self-2 : goal.invariant_of-self-2
invariant_of-self-2 c =
    let free : get c.self.inside.records c.vacant_key.result ≡ None = sym (ap (λ (r : Slab Stored). get r c.vacant_key.result) c.reserve.ensures.rest_kept) ∙ c.vacant_key.ensures.vacant in
    let put = Updates-reserved c.self.inside.records c.reserve.new.self c.insert_reserved.new.self c.vacant_key.result _ _ c.new.result c.reserve.ensures.rest_kept (c.vacant_key.ensures.value ∙ sym c.insert_reserved.ensures.key) c.insert_reserved.ensures.updates c.new.ensures in
    AreJoined-added c.args.x c.vacant_key.result _ _ _ c.self.inside.records c.insert_reserved.new.self _ c.self.invariant c.self.view_is free c.in_ok-insert.ensures.updates.0 put (one-more _ _ _ _ c.in_ok-insert.ensures.len c.in_ok-insert.ensures.old (no_key c.args.x _ c.self.inside.records _ c.self.invariant c.self.view_is c.requires))
    (c.insert_reserved.ensures.len ∙ ap (λ (r : Slab Stored). slab_len r + 1) c.reserve.ensures.rest_kept)

pub returns-clause-ok : goal.returns-clause-ok
returns-clause-ok c =
    let free : get c.self.inside.records c.vacant_key.result ≡ None = sym (ap (λ (r : Slab Stored). get r c.vacant_key.result) c.reserve.ensures.rest_kept) ∙ c.vacant_key.ensures.vacant in
    let put = Updates-reserved c.self.inside.records c.reserve.new.self c.insert_reserved.new.self c.vacant_key.result _ _ c.new.result c.reserve.ensures.rest_kept (c.vacant_key.ensures.value ∙ sym c.insert_reserved.ensures.key) c.insert_reserved.ensures.updates c.new.ensures in
    joined-added c.args.x c.vacant_key.result _ _ _ c.self.inside.records c.insert_reserved.new.self _ c.self.invariant c.self.view_is free c.in_ok-insert.ensures.updates.0 put
