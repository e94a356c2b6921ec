-- Which addresses a pattern matches.
use Rattle.std.specs.Prelude.{ℕ, ◌==◌, ◌&&◌, ◌||◌, ◌++◌, Bool, true, List, [], bytes_eq, codes, drop}
use Rattle.std.specs.Prelude.{if◌then◌else◌, length, nat_eq, Option, None, Some}
use Rattle.std.specs.List.{ends_with, starts_with}
use Rattle.url.specs.Host.{host_text}
use Rattle.url.specs.Parts.{Parts, host_or_empty}
use Rattle.match_pattern.specs.Globs.{globs}
use Rattle.match_pattern.specs.Reading.{all_urls, host_of, is_known_scheme, is_web_scheme, path_of, scheme_of}

-- the host of an address as it is printed, empty where there is none
abbrev pub host_printed : Parts → List ℕ
host_printed url = host_text (host_or_empty url)

-- the query of an address with the mark before it, where there is one
abbrev pub query_printed : Option (List ℕ) → List ℕ
query_printed None = []
query_printed (Some query) = codes "?" ++ query

-- whether a scheme is the one of the pattern; a star stands for those of the web
abbrev pub fits_scheme : List ℕ → List ℕ → Bool
fits_scheme wanted scheme =
    if bytes_eq wanted (codes "*") then is_web_scheme scheme else bytes_eq scheme wanted

-- whether a host is this name, or ends with a dot and the name
abbrev pub is_under : List ℕ → List ℕ → Bool
is_under name host = bytes_eq host name || ends_with nat_eq host (codes "." ++ name)

-- whether a host fits that of the pattern: a star, and the empty one of a file, ask nothing; behind a star
-- and a dot stands the name that it is to be or to be under; any other is the host itself
abbrev pub fits_host : List ℕ → List ℕ → Bool
fits_host wanted host =
    if length wanted == 0 || bytes_eq wanted (codes "*") then true
    else (if starts_with nat_eq wanted (codes "*.") then is_under (drop 2 wanted) host
    else bytes_eq host wanted)

-- whether an address fits this scheme, this host and this path of a pattern. Ports, users and fragments
-- aren't looked at
abbrev pub fits_parts : List ℕ → List ℕ → List ℕ → Parts → Bool
fits_parts scheme host path url =
    fits_scheme scheme url.scheme
    && fits_host host (host_printed url)
    && globs path (url.path ++ query_printed url.query)

-- whether a pattern matches an address
unfoldable pub is_match : List ℕ → Parts → Bool
is_match pattern url =
    if all_urls pattern then is_known_scheme url.scheme
    else fits_parts (scheme_of pattern) (host_of pattern) (path_of pattern) url
