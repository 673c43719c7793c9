-- The bytes of an answer (RFC 9112 for its form).
use Rattle.std.specs.Prelude.{ℕ, List, ◌++◌, length, codes, decimal}
use Rattle.json.specs.Print.{quoted}
use Rattle.cdp_door.specs.declared.answer.Response.{Response}
use Rattle.cdp_door.specs.declared.answer.Response.TheVariants.{Page, Upgrade, Refusal}
use Rattle.cdp_door.specs.declared.answer.Page.{Page as Topic}
use Rattle.cdp_door.specs.declared.answer.Page.TheVariants.{Version, Scripts}
use Rattle.cdp_door.specs.declared.answer.ErrorStatus.{ErrorStatus as Reason}
use Rattle.cdp_door.specs.declared.answer.ErrorStatus.TheVariants.{HeadTooLarge, BadRequest, MethodNotAllowed, NotFound, Forbidden, UpgradeRequired}

-- the list of what can be debugged, by the port and the first script's url in quotes
abbrev pub list_text : ℕ → List ℕ → List ℕ
list_text port url =
    codes "[{\"description\":\"debug_host script\",\"id\":\"session\",\"title\":"
    ++ (url
    ++ (codes ",\"type\":\"node\",\"url\":"
    ++ (url
    ++ (codes ",\"webSocketDebuggerUrl\":\"ws://127.0.0.1:" ++ (decimal port ++ codes "/session\"}]")))))

-- the body of a page, where the debugger listens on this port and the first script has this url
abbrev pub body_of : ℕ → List ℕ → Topic → List ℕ
body_of port url Version = codes "{\"Browser\":\"debug_host\",\"Protocol-Version\":\"1.3\"}"
body_of port url Scripts = list_text port (quoted url)

-- the text of an answer with this body
abbrev pub page_text : List ℕ → List ℕ
page_text body =
    codes "HTTP/1.1 200 OK\r\nContent-Type: application/json; charset=UTF-8\r\nContent-Length: "
    ++ (decimal (length body) ++ (codes "\r\nConnection: close\r\n\r\n" ++ body))

-- the text of an answer that upgrades, with this accept value
abbrev pub upgrade_text : List ℕ → List ℕ
upgrade_text accept =
    codes "HTTP/1.1 101 Switching Protocols\r\nUpgrade: websocket\r\nConnection: Upgrade\r\nSec-WebSocket-Accept: "
    ++ (accept ++ codes "\r\n\r\n")

-- the text of a refusal
abbrev pub refusal_text : Reason → List ℕ
refusal_text HeadTooLarge =
    codes "HTTP/1.1 431 Request Header Fields Too Large\r\nContent-Length: 0\r\nConnection: close\r\n\r\n"
refusal_text BadRequest = codes "HTTP/1.1 400 Bad Request\r\nContent-Length: 0\r\nConnection: close\r\n\r\n"
refusal_text MethodNotAllowed =
    codes "HTTP/1.1 405 Method Not Allowed\r\nContent-Length: 0\r\nConnection: close\r\n\r\n"
refusal_text NotFound = codes "HTTP/1.1 404 Not Found\r\nContent-Length: 0\r\nConnection: close\r\n\r\n"
refusal_text Forbidden = codes "HTTP/1.1 403 Forbidden\r\nContent-Length: 0\r\nConnection: close\r\n\r\n"
refusal_text UpgradeRequired =
    codes "HTTP/1.1 426 Upgrade Required\r\nContent-Length: 0\r\nConnection: close\r\nSec-WebSocket-Version: 13\r\n\r\n"

-- the text of an answer
abbrev pub text_of : ℕ → List ℕ → Response → List ℕ
text_of port url (Page page) = page_text (body_of port url page)
text_of port url (Upgrade accept) = upgrade_text accept
text_of port url (Refusal reason) = refusal_text reason

-- the status of a refusal
abbrev pub refusal_status : Reason → ℕ
refusal_status HeadTooLarge = 431
refusal_status BadRequest = 400
refusal_status MethodNotAllowed = 405
refusal_status NotFound = 404
refusal_status Forbidden = 403
refusal_status UpgradeRequired = 426

-- the status of an answer
abbrev pub status_of : Response → ℕ
status_of (Page page) = 200
status_of (Upgrade accept) = 101
status_of (Refusal reason) = refusal_status reason
