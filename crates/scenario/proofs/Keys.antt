-- The members of an object beside the map that holds them.
use Rattle.std.proofs.Common.{◌≡◌, ℕ, Bool, true, false, not, ◌&&◌, List, [], ◌∷◌, length, Some, String, Global, string_bytes, refl, sym, ap, ◌∙◌, arith}
use Rattle.std.specs.Bool.{IsTrue}
use Rattle.std.specs.List.{list_all}
use Rattle.std.specs.Map.{keys_of}
use Rattle.serde_json.specs.Data.{Data, null, boolean, number, string, array, object, Members}
use Rattle.serde_json.specs.Find.{as_object}
use Rattle.serde_json.specs.View.{members_view}
use Rattle.serde_json.specs.declared.value.Value.{Value}
use Rattle.scenario.specs.Members.{all_named, has_only, has_member}

keys_named : (allowed : List ℕ → Bool) (es : List (String Global × Value)) → list_all (λ k. allowed (string_bytes k)) (keys_of es) ≡ all_named allowed (members_view es)
keys_named allowed [] = refl
keys_named allowed (e ∷ es) = ap (λ b. allowed (string_bytes e.0) && b) (keys_named allowed es)

object_of : (d : Data) (ms : Members) → Some ms ≡ as_object d → d ≡ object ms
object_of null ms e = absurd cc
object_of (boolean b) ms e = absurd cc
object_of (number n) ms e = absurd cc
object_of (string s) ms e = absurd cc
object_of (array ds) ms e = absurd cc
object_of (object other) ms e = cc

pub only_of_keys : (allowed : List ℕ → Bool) (d : Data) (es : List (String Global × Value)) → Some (members_view es) ≡ as_object d → list_all (λ k. allowed (string_bytes k)) (keys_of es) ≡ has_only allowed d
only_of_keys allowed d es e = keys_named allowed es ∙ ap (has_only allowed) (sym (object_of d (members_view es) e))

pub member_of_entries : (es : List (String Global × Value)) (b : Bool) → (IsTrue b → length es ≡ 0) → (length es ≡ 0 → IsTrue b) → not b ≡ has_member (members_view es)
member_of_entries [] true to from = refl
member_of_entries [] false to from = absurd (let t : false ≡ true = from refl in cc)
member_of_entries (e ∷ es) true to from = absurd (omega (arith, to refl))
member_of_entries (e ∷ es) false to from = refl
