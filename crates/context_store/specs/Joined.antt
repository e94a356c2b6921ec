-- A content as keys and records: a slab has the record of a context under the key that a list gives for it.
use Rattle.std.specs.Prelude.{◌≡◌, ℕ, List, [], ◌∷◌, length, Option, None, Some, IsSome}
use Rattle.std.specs.FinMap.{empty, insert, remove}
use Rattle.std.specs.Map.{lookup}
use Rattle.slab.specs.Slab.{Slab, get, slab_len}
use Rattle.fission_ids.specs.declared.context.ContextId.{ContextId}
use Rattle.fission_ids.specs.Ids.{same_context}
use Rattle.context_store.specs.Content.{Content, Stored}

-- contexts and the keys of their records
abbrev pub Keys : Type 0
Keys = List (ContextId × ℕ)

-- the key of a context
abbrev pub key_of : ContextId → Keys → Option ℕ
key_of x keys = lookup (same_context x) keys

-- the content with this at a context
abbrev pub content_with : Content → ContextId → Option Stored → Content
content_with m x None = remove m x
content_with m x (Some s) = insert m x s

-- the content where the record of each context is under its key; of two keys of a context the first counts
abbrev pub content_of : Slab Stored → Keys → Content
content_of records [] = empty
content_of records (entry ∷ keys) = content_with (content_of records keys) entry.0 (get records entry.1)

-- each key has a record, different contexts have different keys, and there is no other record
pub record AreJoined (keys : Keys) (records : Slab Stored) : Type 0 where
  pub held : (x : ContextId) (key : ℕ) → key_of x keys ≡ Some key → IsSome (get records key)
  pub apart : (x y : ContextId) (key : ℕ) → key_of x keys ≡ Some key → key_of y keys ≡ Some key → x ≡ y
  pub count : slab_len records ≡ length keys
