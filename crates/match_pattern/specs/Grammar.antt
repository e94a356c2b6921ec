-- How patterns are spelled.
use Rattle.std.specs.Prelude.{◌≡◌, ◌≢◌, ◌⊎◌, ◌↔◌, ℕ, ◌≤◌, ◌++◌, List, [], codes, length, true, All, None}
use Rattle.match_pattern.specs.Reading.{fault_of, is_name_byte, is_path_byte, is_scheme}

-- a name has 1 to 253 bytes, each of which may stand in a name
abbrev pub IsName : List ℕ → Type 0
IsName name = (1 ≤ length name) × (length name ≤ 253) × All (λ b. is_name_byte b ≡ true) name

-- a host that isn't of a file is a star, or a star, a dot and a name, or a name
abbrev pub IsNamedHost : List ℕ → Type 0
IsNamedHost host =
    (host ≡ codes "*")
    ⊎ ((name : List ℕ) × (host ≡ codes "*." ++ name) × IsName name)
    ⊎ IsName host

-- the host of a file is empty
abbrev pub IsHost : List ℕ → List ℕ → Type 0
IsHost scheme host =
    ((scheme ≡ codes "file") × (host ≡ []))
    ⊎ ((scheme ≢ codes "file") × IsNamedHost host)

-- a path begins with a slash, and has only bytes that may stand in a path
abbrev pub IsPath : List ℕ → Type 0
IsPath path = ((rest : List ℕ) × (path ≡ codes "/" ++ rest)) × All (λ b. is_path_byte b ≡ true) path

-- a text is a scheme, `://`, a host and a path
pub record IsSpelled (text : List ℕ) : Type 0 where
  pub scheme : List ℕ
  pub host : List ℕ
  pub path : List ℕ
  pub whole : text ≡ scheme ++ (codes "://" ++ (host ++ path))
  pub has_scheme : is_scheme scheme ≡ true
  pub has_host : IsHost scheme host
  pub has_path : IsPath path

-- a text is a pattern exactly where it is `<all_urls>`, or a scheme, `://`, a host and a path
abbrev pub PatternsAreSpelled : Type 0
PatternsAreSpelled = (text : List ℕ) → (fault_of text ≡ None) ↔ ((text ≡ codes "<all_urls>") ⊎ IsSpelled text)
