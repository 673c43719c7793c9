-- What the definitions come to, computed: the accept value of RFC 6455's example, and answers to some heads.
use Rattle.std.proofs.Common.{◌≡◌, ℕ, List, [], ◌∷◌, codes, length, true, refl}
use Rattle.sha1.specs.Sha1.{first_words, schedule, rounds, compress, hash_after, digest_bytes, sha1}
use Rattle.base64.specs.Decode.{groups_error, scan_steps, groups_bytes}
use Rattle.base64.specs.Rfc4648.{encode_symbols}
use Rattle.cdp_door.specs.Answers.{answer_of}
use Rattle.cdp_door.specs.Keys.{is_key, accept_of}
use Rattle.cdp_door.specs.Requests.{Asked}
use Rattle.cdp_door.specs.Texts.{body_of}
use Rattle.cdp_door.specs.declared.answer.Response.TheVariants.{Page, Upgrade, Refusal}
use Rattle.cdp_door.specs.declared.answer.Page.TheVariants.{Version, Scripts}
use Rattle.cdp_door.specs.declared.answer.ErrorStatus.TheVariants.{BadRequest, MethodNotAllowed, NotFound, Forbidden, UpgradeRequired}
use Rattle.httparse.specs.Grammar.{trim_ows}

-- the accept value of the example of RFC 6455, section 1.3
pub accept_of_example : accept_of (codes "dGhlIHNhbXBsZSBub25jZQ==") ≡ codes "s3pPLMBiTxaQ9kYGzzhZRbK+xOo="
unfolding first_words schedule rounds compress hash_after digest_bytes sha1 encode_symbols
accept_of_example = refl

-- its key is one
pub key_of_example : is_key (codes "dGhlIHNhbXBsZSBub25jZQ==") ≡ true
unfolding groups_error scan_steps groups_bytes
key_of_example = refl

-- a request by `GET` of HTTP/1.1
abbrev get : List ℕ → List (List ℕ × List ℕ) → Asked
get target fields = record { minor = 1; method = codes "GET"; target = target; fields = fields }

-- the fields of an upgrade, of this version
abbrev upgrade : List ℕ → List (List ℕ × List ℕ)
upgrade version =
    (codes "Upgrade", codes "websocket")
    ∷ (codes "Connection", codes "keep-alive, Upgrade")
    ∷ (codes "Sec-WebSocket-Version", version)
    ∷ (codes "Sec-WebSocket-Key", codes "dGhlIHNhbXBsZSBub25jZQ==")
    ∷ []

-- the version is answered for any host
pub version_page : answer_of (get (codes "/json/version") ((codes "Host", codes "x") ∷ [])) ≡ Page Version
version_page = refl

-- its body has 49 bytes
pub version_length : (port : ℕ) (url : List ℕ) → length (body_of port url Version) ≡ 49
version_length port url = refl

-- the session is upgraded
pub upgraded : answer_of (get (codes "/session") (upgrade (codes "13"))) ≡ Upgrade (codes "s3pPLMBiTxaQ9kYGzzhZRbK+xOo=")
unfolding first_words schedule rounds compress hash_after digest_bytes sha1 encode_symbols trim_ows groups_error scan_steps groups_bytes
upgraded = refl

-- and by another version it is not
pub other_version : answer_of (get (codes "/session") (upgrade (codes "12"))) ≡ Refusal UpgradeRequired
unfolding trim_ows
other_version = refl

-- a page of another origin is refused
pub other_origin : answer_of (get (codes "/session") ((codes "Origin", codes "http://example.com") ∷ upgrade (codes "13"))) ≡ Refusal Forbidden
other_origin = refl

-- a browser's own tools are not
pub own_origin : answer_of (get (codes "/session") ((codes "origin", codes "devtools://devtools") ∷ [])) ≡ Refusal UpgradeRequired
own_origin = refl

-- another host sees no list
pub other_host : answer_of (get (codes "/json/list?t") ((codes "HOST", codes "example.com:9229") ∷ [])) ≡ Refusal Forbidden
other_host = refl

-- this one does, with any port
pub own_host : answer_of (get (codes "/json") ((codes "Host", codes "LOCALHOST:9229") ∷ [])) ≡ Page Scripts
own_host = refl

-- the order of the table
pub other_method : answer_of (record { minor = 1; method = codes "POST"; target = codes "/x"; fields = [] }) ≡ Refusal MethodNotAllowed
other_method = refl

pub other_minor : answer_of (record { minor = 0; method = codes "POST"; target = codes "/x"; fields = [] }) ≡ Refusal BadRequest
other_minor = refl

pub other_target : answer_of (get (codes "/session?x") (upgrade (codes "13"))) ≡ Refusal NotFound
other_target = refl
