-- The answer to a request: RFC 9110 for the statuses, RFC 6455 for the upgrade.
use Rattle.std.specs.Prelude.{ℕ, List, [], ◌∷◌, Bool, true, ◌&&◌, ◌||◌, not, ◌==◌, if◌then◌else◌, length, take, drop, codes, bytes_eq, Option, Some, None}
use Rattle.httparse.specs.Grammar.{RequestHead}
use Rattle.cdp_door.specs.declared.answer.Response.{Response}
use Rattle.cdp_door.specs.declared.answer.Response.TheVariants.{Page, Upgrade, Refusal}
use Rattle.cdp_door.specs.declared.answer.Page.{Page as Topic}
use Rattle.cdp_door.specs.declared.answer.Page.TheVariants.{Version, Scripts}
use Rattle.cdp_door.specs.declared.answer.ErrorStatus.TheVariants.{BadRequest, MethodNotAllowed, NotFound, Forbidden, UpgradeRequired}
use Rattle.cdp_door.specs.Callers.{has_foreign_host, has_foreign_origin}
use Rattle.cdp_door.specs.Fields.{first_value, has_word, is_there_and}
use Rattle.cdp_door.specs.Keys.{is_key, accept_of}
use Rattle.cdp_door.specs.Requests.{Asked, asked_by}

-- nothing, or what begins with a question mark, the byte 63
abbrev pub is_query : List ℕ → Bool
is_query [] = true
is_query (byte ∷ rest) = byte == 63

-- a target is this path, with a query or none
abbrev pub is_at : List ℕ → List ℕ → Bool
is_at path target = bytes_eq (take (length path) target) path && is_query (drop (length path) target)

-- the page that a target names
abbrev pub page_of : List ℕ → Option Topic
page_of target =
    if is_at (codes "/json/version") target then Some Version
    else if is_at (codes "/json/list") target || is_at (codes "/json") target then Some Scripts
    else None

-- the client asks to speak the WebSocket protocol of version 13
abbrev pub asks_upgrade : List (List ℕ × List ℕ) → Bool
asks_upgrade fields =
    is_there_and (has_word (codes "websocket")) (first_value (codes "upgrade") fields)
    && is_there_and (has_word (codes "upgrade")) (first_value (codes "connection") fields)
    && is_there_and (λ version. bytes_eq version (codes "13")) (first_value (codes "sec-websocket-version") fields)

-- the answer to a key
abbrev pub answer_to_key : Option (List ℕ) → Response
answer_to_key None = Refusal BadRequest
answer_to_key (Some key) = if is_key key then Upgrade (accept_of key) else Refusal BadRequest

-- the answer to a request for the session
abbrev pub answer_to_session : List (List ℕ × List ℕ) → Response
answer_to_session fields =
    if has_foreign_host fields || has_foreign_origin fields then Refusal Forbidden
    else if asks_upgrade fields then answer_to_key (first_value (codes "sec-websocket-key") fields)
    else Refusal UpgradeRequired

-- the answer to a request for a page
abbrev pub answer_to_page : Topic → List (List ℕ × List ℕ) → Response
answer_to_page Version fields = Page Version
answer_to_page Scripts fields = if has_foreign_host fields then Refusal Forbidden else Page Scripts

-- the answer to a request for a page, or else for the session, or for nothing that is there
abbrev pub answer_at : Option Topic → List ℕ → List (List ℕ × List ℕ) → Response
answer_at (Some page) target fields = answer_to_page page fields
answer_at None target fields =
    if bytes_eq target (codes "/session") then answer_to_session fields else Refusal NotFound

-- the answer to what is asked
abbrev pub answer_of : Asked → Response
answer_of asked =
    if not (asked.minor == 1) then Refusal BadRequest
    else if not (bytes_eq asked.method (codes "GET")) then Refusal MethodNotAllowed
    else answer_at (page_of asked.target) asked.target asked.fields

-- the answer to a request head
abbrev pub answer_to : RequestHead → Response
answer_to head = answer_of (asked_by head)
