use Rattle.std.proofs.Common.{◌≡◌, ℕ, ◌^◌, ◌<◌, List, ◌∷◌, ◌++◌, Option, Some, None, IfSome, IsSomeAnd, Bor, decimal, arith}
use Rattle.std.proofs.lemmas.Str.Pattern.{IsSplitOnceResult, split_parts, split_after}
use Rattle.fission_ids.specs.Ids.{numbers_text}
use Rattle.fission_ids.proofs.Printed.{no_dot-decimal}
use Rattle.fission_ids.proofs.numbers.split_at_dot.Goals as goal

found : (bs : List ℕ) (r : Option (Bor (List ℕ) × Bor (List ℕ))) → IsSplitOnceResult 46 bs r → IfSome r (λ parts. bs ≡ parts.0.now ++ 46 ∷ parts.1.now)
found bs None h = tt
found bs (Some x) h = (split_parts 46 bs (Some x) h (omega arith)).0

every : (bs : List ℕ) (r : Option (Bor (List ℕ) × Bor (List ℕ))) → IsSplitOnceResult 46 bs r → (creator serial : ℕ) → creator < 2 ^ 32 → bs ≡ numbers_text creator serial → IsSomeAnd r (λ parts. (parts.0.now ≡ decimal creator) × (parts.1.now ≡ decimal serial))
every bs None h creator serial small e = split_after 46 bs (decimal creator) (decimal serial) None h (omega arith) e (no_dot-decimal creator (omega arith))
every bs (Some x) h creator serial small e = split_after 46 bs (decimal creator) (decimal serial) (Some x) h (omega arith) e (no_dot-decimal creator (omega arith))

pub returns-clause-found : goal.returns-clause-found
returns-clause-found c = found c.args.text.now c.split_once.result c.split_once.ensures.cases

pub returns-clause-every : goal.returns-clause-every
returns-clause-every c = every c.args.text.now c.split_once.result c.split_once.ensures.cases
