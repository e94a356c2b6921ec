-- Which texts are patterns, and at which place any other text breaks first.
use Rattle.std.specs.Prelude.{◌≡◌, ◌++◌, ◌∷◌, ℕ, ◌+◌, ◌==◌, ◌&&◌, ◌||◌, Bool, not, List, bytes_eq, codes}
use Rattle.std.specs.Prelude.{drop, if◌then◌else◌, is_some, length, nat_eq, nat_le, nat_lt, take, unwrap_or}
use Rattle.std.specs.Prelude.{Option, None, Some}
use Rattle.std.specs.List.{before_first, prefix_len, starts_with}
use Rattle.std.specs.Option.{option_map, option_or}
use Rattle.match_pattern.specs.Globs.{place_of}
use Rattle.match_pattern.specs.declared.fault.PatternFault.{PatternFault}
use Rattle.match_pattern.specs.declared.fault.PatternFault.TheVariants.{NoScheme, BadHost, BadPath}

-- what stands between scheme and host
abbrev pub separator : List ℕ
separator = codes "://"

-- how long what stands before the first separator is
abbrev pub scheme_len : List ℕ → ℕ
scheme_len text = unwrap_or (place_of separator text) 0

-- what stands before the first separator
abbrev pub scheme_of : List ℕ → List ℕ
scheme_of text = take (scheme_len text) text

-- where the host begins
abbrev pub host_start : List ℕ → ℕ
host_start text = scheme_len text + length separator

abbrev pub is_slash : ℕ → Bool
is_slash b = b == 47

-- what stands behind the separator, up to the next slash or the end
abbrev pub host_of : List ℕ → List ℕ
host_of text = before_first is_slash (drop (host_start text) text)

-- where the path begins
abbrev pub path_start : List ℕ → ℕ
path_start text = host_start text + length (host_of text)

-- the rest
abbrev pub path_of : List ℕ → List ℕ
path_of text = drop (path_start text) text

-- whether the text is the pattern that matches each address of a known scheme
abbrev pub all_urls : List ℕ → Bool
all_urls text = bytes_eq text (codes "<all_urls>")

-- whether it is a scheme of the web
abbrev pub is_web_scheme : List ℕ → Bool
is_web_scheme scheme = bytes_eq scheme (codes "http") || bytes_eq scheme (codes "https")

-- whether it is one of the schemes of which `<all_urls>` matches each address
abbrev pub is_known_scheme : List ℕ → Bool
is_known_scheme scheme =
    is_web_scheme scheme
    || bytes_eq scheme (codes "ws")
    || bytes_eq scheme (codes "wss")
    || bytes_eq scheme (codes "ftp")
    || bytes_eq scheme (codes "file")

-- whether a pattern may have the scheme
abbrev pub is_scheme : List ℕ → Bool
is_scheme scheme = bytes_eq scheme (codes "*") || is_known_scheme scheme

-- a small letter, a digit, `.` or `-`
abbrev pub is_name_byte : ℕ → Bool
is_name_byte b = (nat_le 97 b && nat_le b 122) || (nat_le 48 b && nat_le b 57) || b == 46 || b == 45

-- a byte that is printed, and no blank
abbrev pub is_path_byte : ℕ → Bool
is_path_byte b = nat_le 33 b && nat_le b 126

-- a part that is to have a byte, and of which only so many in front may stand, breaks behind these, unless
-- they are all of it
abbrev pub break_behind : ℕ → List ℕ → Option ℕ
break_behind good part = if nat_lt 0 good && good == length part then None else Some good

-- where a name breaks, if it does: it has 1 to 253 bytes that may stand in a name
abbrev pub name_break : List ℕ → Option ℕ
name_break name = break_behind (prefix_len is_name_byte (take 253 name)) name

-- where a host breaks that isn't of a file: it is a star, or a star, a dot and a name, or a name
abbrev pub named_host_break : List ℕ → Option ℕ
named_host_break host =
    if bytes_eq host (codes "*") then None
    else (if starts_with nat_eq host (codes "*.") then option_map (λ at. at + 2) (name_break (drop 2 host))
    else (if starts_with nat_eq host (codes "*") then Some 1
    else name_break host))

-- where the host breaks, if it does: that of a file is empty
abbrev pub host_break : List ℕ → List ℕ → Option ℕ
host_break scheme host =
    if bytes_eq scheme (codes "file") then (if length host == 0 then None else Some 0)
    else named_host_break host

-- where the path breaks, if it does: it has a byte or more that may stand in a path, of which the slash is
-- the first
abbrev pub path_break : List ℕ → Option ℕ
path_break path = break_behind (prefix_len is_path_byte path) path

-- whether a scheme of a pattern stands before a separator
abbrev pub has_scheme : List ℕ → Bool
has_scheme text = is_some (place_of separator text) && is_scheme (scheme_of text)

-- the first place that breaks a text, if one does
unfoldable pub fault_of : List ℕ → Option PatternFault
fault_of text =
    if all_urls text then None
    else (if not (has_scheme text) then Some (NoScheme 0)
    else option_or
    (option_map (λ at. BadHost (host_start text + at)) (host_break (scheme_of text) (host_of text)))
    (option_map (λ at. BadPath (path_start text + at)) (path_break (path_of text))))

-- the fault of a host, and that of a path, stand at their byte, whatever follows it
pub record FaultsStand : Type 0 where
  pub of_host : (front rest more : List ℕ) (b : ℕ) →
      fault_of (front ++ b ∷ rest) ≡ Some (BadHost (length front)) →
      fault_of (front ++ b ∷ more) ≡ Some (BadHost (length front))
  pub of_path : (front rest more : List ℕ) (b : ℕ) →
      fault_of (front ++ b ∷ rest) ≡ Some (BadPath (length front)) →
      fault_of (front ++ b ∷ more) ≡ Some (BadPath (length front))
