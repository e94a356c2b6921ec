use Rattle.std.proofs.Common.{◌≡◌, ℕ, List, true, false, cond, Some, None, Ok, Err, refl}
use Rattle.std.specs.Str.{IsUtf8, is_utf8}
use Rattle.std.proofs.lemmas.Str.{is_utf8-from_IsUtf8, IsUtf8-from_is_utf8}
use Rattle.serde_json.specs.Data.{Data}
use Rattle.serde_json.specs.Read.{read as read_text}
use Rattle.serde_json.specs.View.{view}
use Rattle.scenario.specs.declared.fault.ReadFault.TheVariants.{Unread}
use Rattle.scenario.specs.Reading.{data_of, or_unread}
use Rattle.scenario.proofs.reading.value_of_bytes.Goals as goal

is_read : (bytes : List ℕ) (d : Data) → IsUtf8 bytes → read_text bytes ≡ Some d → or_unread (data_of bytes) ≡ Ok d
is_read bytes d utf8 read = rw (is_utf8-from_IsUtf8 bytes utf8, read) refl

unread : (bytes : List ℕ) → (IsUtf8 bytes → read_text bytes ≡ None) → or_unread (data_of bytes) ≡ Err Unread
unread bytes none =
    elim (is_utf8 bytes) as (λ b. is_utf8 bytes ≡ b → or_unread (cond b (read_text bytes) None) ≡ Err Unread) [
      | true ↦ λ e. rw (none (IsUtf8-from_is_utf8 bytes e)) refl
      | false ↦ λ e. refl
    ] refl

pub returns-in-Ok : goal.returns-in-Ok
returns-in-Ok c = is_read c.args.bytes.now (view c.in-Ok.v) c.in-Ok.ensures.ok.0 c.in-Ok.ensures.ok.1

pub returns-else-is_memory : goal.returns-else-is_memory
returns-else-is_memory c = unread c.args.bytes.now (c.in-Err.ensures.err (λ m. let t : false ≡ true = c.if-is_memory.ensures.1 m in absurd cc))
