use Rattle.std.proofs.Common.{◌≡◌, ◌∙◌, ◌++◌, ◌∷◌, [], ap, sym, subst, None, length, ◌<◌, string_bytes}
use Rattle.actor_registry.specs.Registry.{entry_of, entries_in, KeepsEntries}
use Rattle.actor_registry.proofs.Named.{inserted, keeps_more, entries_more, found_more}
use Rattle.actor_registry.proofs.registry.Registry.add.Goals as goal
use Rattle.actor_registry.proofs.registry.Registry.add.Goals.{Joined-branch-3}

named : (c : Joined-branch-3) → string_bytes c.in_ok-name.name ≡ c.args.entry.name
named c = c.in_ok-name.ensures.ok ∙ c.as_str.ensures

none : (c : Joined-branch-3) → entry_of c.args.entry.name (entries_in c.self.inside.entries.entries) ≡ None
none c = ap (entry_of c.args.entry.name) c.self.view_is ∙ c.requires.apart

whole : (c : Joined-branch-3) → c.insert.new.self.entries ≡ c.self.inside.entries.entries ++ (c.in_ok-name.name, c.args.entry) ∷ []
whole c =
    c.in_ok-insert.ensures.entries
    ∙ inserted c.self.inside.entries c.in_ok-name.name c.args.entry (named c) c.self.invariant (none c)

pub invariant_of-self-2 : goal.invariant_of-self-2
invariant_of-self-2 c =
    subst KeepsEntries (sym (whole c))
    (keeps_more c.self.inside.entries.entries c.in_ok-name.name c.args.entry (named c) c.self.invariant (none c)
    (subst (λ l. length l < 64) (sym c.self.view_is) c.requires.room))

pub returns-clause-ok : goal.returns-clause-ok
returns-clause-ok c =
    ap entries_in (whole c)
    ∙ entries_more c.self.inside.entries.entries c.in_ok-name.name c.args.entry
    ∙ ap (λ l. l ++ c.args.entry ∷ []) c.self.view_is

pub returns-clause-lookups : goal.returns-clause-lookups
returns-clause-lookups c = λ name.
    ap (entry_of name) (returns-clause-ok c) ∙ found_more c.args.self.now c.args.entry c.requires.apart name
