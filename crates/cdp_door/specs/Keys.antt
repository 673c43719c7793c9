-- The keys of the WebSocket handshake (RFC 6455, section 4.2.2).
use Rattle.std.specs.Prelude.{Result, Ok, Err, ℕ, List, ◌++◌, Bool, false, ◌==◌, length, codes}
use Rattle.base64.specs.declared.decode.DecodeError.{DecodeError}
use Rattle.base64.specs.Engines.{standard}
use Rattle.base64.specs.GeneralPurpose.{encode_of, decode_of}
use Rattle.sha1.specs.Sha1.{sha1}

-- a text in base64 was read, as 16 bytes
abbrev pub is_nonce : Result (List ℕ) DecodeError → Bool
is_nonce (Ok bytes) = length bytes == 16
is_nonce (Err error) = false

-- a key is the base64 of 16 bytes
abbrev pub is_key : List ℕ → Bool
is_key key = is_nonce (decode_of standard key)

-- the value of `Sec-WebSocket-Accept` that answers a key
abbrev pub accept_of : List ℕ → List ℕ
accept_of key = encode_of standard (sha1 (key ++ codes "258EAFA5-E914-47DA-95CA-C5AB0DC85B11"))
