-- What a text of UTF-16 units is to a text in UTF-8.
use Rattle.std.specs.Prelude.{ℕ, List, flat_map, chars, encode_utf8_all}
use Rattle.std.specs.Char.Escape.{encode_utf16}
use Rattle.std.specs.Char.Utf16.{utf16_lossy_chars}

-- the UTF-16 form of a text: the one or two units of each of its characters
unfoldable pub utf16_of : List ℕ → List ℕ
utf16_of bytes = flat_map encode_utf16 (chars bytes)

-- the text that units spell, in UTF-8: each surrogate that has no partner is U+FFFD
unfoldable pub utf8_of : List ℕ → List ℕ
utf8_of units = encode_utf8_all (utf16_lossy_chars units)
