-- Who may dial: pages of a browser name the host that they think they speak to, and where they come from.
use Rattle.std.specs.Prelude.{ℕ, List, [], ◌∷◌, Bool, true, false, ◌&&◌, ◌||◌, not, ◌==◌, nat_lt, if◌then◌else◌, length, take, drop, codes, bytes_eq}
use Rattle.std.specs.List.{list_all}
use Rattle.std.specs.Char.{is_ascii_digit}
use Rattle.std.specs.Str.{str_eq_ignore_ascii_case}
use Rattle.cdp_door.specs.Fields.{first_value, is_there_and}

-- no port, or a colon, the byte 58, and digits
abbrev pub is_port : List ℕ → Bool
is_port [] = true
is_port (byte ∷ digits) = byte == 58 && list_all is_ascii_digit digits

-- a value of `Host` is this name, without ASCII case, and a port or none
abbrev pub is_host : List ℕ → List ℕ → Bool
is_host name host =
    if nat_lt (length host) (length name) then false
    else str_eq_ignore_ascii_case (take (length name) host) name && is_port (drop (length name) host)

-- a value of `Host` names this machine
abbrev pub is_own_host : List ℕ → Bool
is_own_host host =
    is_host (codes "127.0.0.1") host || is_host (codes "localhost") host || is_host (codes "[::1]") host

-- a host is named that isn't this machine
abbrev pub has_foreign_host : List (List ℕ × List ℕ) → Bool
has_foreign_host fields = is_there_and (λ host. not (is_own_host host)) (first_value (codes "host") fields)

-- a value of `Origin` is one of a browser's own tools
abbrev pub is_own_origin : List ℕ → Bool
is_own_origin origin = bytes_eq (take (length (codes "devtools://")) origin) (codes "devtools://")

-- an origin is named that isn't a browser's own tools
abbrev pub has_foreign_origin : List (List ℕ × List ℕ) → Bool
has_foreign_origin fields = is_there_and (λ origin. not (is_own_origin origin)) (first_value (codes "origin") fields)
