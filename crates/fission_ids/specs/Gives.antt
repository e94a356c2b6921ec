-- What an answer has to do with what it is to be, where memory may be wanting.
use Rattle.std.specs.Prelude.{◌≡◌, Bool, true, false, Result, Ok, Err, ⊤}

-- a fault is the one that is to be answered, if it doesn't tell want of memory
abbrev pub FailsWith : {A E : Type 0} → Bool → E → Result A E → Type 0
FailsWith true fault r = ⊤
FailsWith false fault r = r ≡ Err fault

-- an answer, whose value is seen through `view`, is r, or a fault that tells want of memory
abbrev pub GivesBy : {A B E : Type 0} → (E → Bool) → (A → B) → Result A E → Result B E → Type 0
GivesBy is_memory view (Ok x) r = r ≡ Ok (view x)
GivesBy is_memory view (Err fault) r = FailsWith (is_memory fault) fault r

-- an answer is r, or a fault that tells want of memory
abbrev pub Gives : {A E : Type 0} → (E → Bool) → Result A E → Result A E → Type 0
Gives is_memory = GivesBy is_memory (λ x. x)
