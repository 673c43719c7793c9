-- The span of a node, found in its tree's places and its source's tokens: from the start of its first token to the end
-- of its last one.
use Rattle.std.specs.Prelude.{ℕ, List, [], ◌∷◌, nat_eq, if◌then◌else◌}
use Rattle.js_lexer.specs.declared.token.TokenKind.{TokenKind}
use Rattle.js_tree.specs.declared.node.Span.{Span}
use Rattle.js_parser_language.specs.Tokens.{Token, head_of, tail_of}
use Rattle.js_parser_language.specs.Kinds.{is_kind}
use Rattle.js_parser_language.specs.Places.{FlatPlace, stands, stands_maybe, opens, closes, start_of, end_of}

-- the tokens left behind this one, which may be absent
abbrev pub left_behind : TokenKind → List Token → List Token
left_behind kind ts = if (is_kind kind (head_of ts)) then tail_of ts else ts

-- where the last token ends behind this one, which may be absent; the token before ends at `before`
abbrev pub end_behind : TokenKind → ℕ → List Token → ℕ
end_behind kind before ts = if (is_kind kind (head_of ts)) then end_of (head_of ts) else before

-- where the first token of the node of this number starts; 0 where no node has it
abbrev pub node_start : ℕ → List FlatPlace → List Token → ℕ
node_start n [] ts = 0
node_start n (opens m ∷ ps) ts = if (nat_eq n m) then start_of (head_of ts) else node_start n ps ts
node_start n (closes m ∷ ps) ts = node_start n ps ts
node_start n (stands s ∷ ps) ts = node_start n ps (tail_of ts)
node_start n (stands_maybe kind ∷ ps) ts = node_start n ps (left_behind kind ts)

-- where the last token of the node of this number ends; 0 where no node has it. The token before the first place ends
-- at `before`.
abbrev pub node_end : ℕ → List FlatPlace → ℕ → List Token → ℕ
node_end n [] before ts = 0
node_end n (opens m ∷ ps) before ts = node_end n ps before ts
node_end n (closes m ∷ ps) before ts = if (nat_eq n m) then before else node_end n ps before ts
node_end n (stands s ∷ ps) before ts = node_end n ps (end_of (head_of ts)) (tail_of ts)
node_end n (stands_maybe kind ∷ ps) before ts = node_end n ps (end_behind kind before ts) (left_behind kind ts)

-- The span of the node of this number, in a tree with these places and a source with these tokens; where no node has
-- the number, the empty span at the start.
abbrev pub node_span : ℕ → List FlatPlace → List Token → Span
node_span n ps ts = record { start = node_start n ps ts; end = node_end n ps 0 ts }
