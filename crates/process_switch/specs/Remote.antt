-- The remote type that an address asks for.
use Rattle.std.specs.Prelude.{◌++◌, ◌&&◌, ◌||◌, [], if◌then◌else◌, bytes_eq, codes, decimal, option_map}
use Rattle.std.specs.Prelude.{unwrap_or, Bool, List, None, Option, Some, ℕ}
use Rattle.url.specs.Host.{host_text}
use Rattle.url.specs.Parts.{nonempty_host, Parts}

-- whether the scheme is one of the web's
abbrev pub is_web : Parts → Bool
is_web url = bytes_eq url.scheme (codes "http") || bytes_eq url.scheme (codes "https")

-- whether this is an address of the browser's own
abbrev pub is_about : Parts → Bool
is_about url = bytes_eq url.scheme (codes "about")

-- whether this is the blank page, whatever its query and fragment are
abbrev pub is_blank : Parts → Bool
is_blank url = is_about url && bytes_eq url.path (codes "blank")

-- the host as it is printed
abbrev pub host_of : Parts → List ℕ
host_of url = unwrap_or (option_map host_text (nonempty_host url)) []

-- a colon and the port, where there is one
abbrev pub port_text : Option ℕ → List ℕ
port_text None = []
port_text (Some port) = codes ":" ++ decimal port

-- the type of the processes for a scheme, a host and a port alone
unfoldable pub isolated_text : List ℕ → List ℕ → Option ℕ → List ℕ
isolated_text scheme host port =
    codes "webIsolated=" ++ (scheme ++ (codes "://" ++ (host ++ port_text port)))

-- the type of the processes for the address's scheme, host and port
abbrev pub isolated_type : Parts → List ℕ
isolated_type url = isolated_text url.scheme (host_of url) url.port

-- the type of the processes that many addresses share
abbrev pub shared_type : Parts → List ℕ
shared_type url =
    if is_about url then codes "privilegedabout"
    else if bytes_eq url.scheme (codes "file") then codes "file"
    else codes "web"

-- the remote type that an address asks for, where this is the present one
abbrev pub remote_type : Parts → List ℕ → List ℕ
remote_type url present =
    if is_web url then isolated_type url
    else if is_blank url then present
    else shared_type url
