-- What a journal of a worked script comes to, as a term that computes, whatever the script's tree in memory is.
use Rattle.std.proofs.Common.{◌≡◌, ℕ, List, [], ◌∷◌, length, suc, All, codes, decimal, filter, nat_eq, Bool, true, false, Option, sym, ap, subst, ◌∙◌, refl, ◌++◌, bytes_eq, if◌then◌else◌, Some, None, option_map, option_to_list}
use Rattle.cdp_text.specs.declared.position.Pos.{Pos}
use Rattle.cdp_text.specs.declared.position.Place.{Place}
use Rattle.cdp_host_isolation.specs.Meanings as meanings
use Rattle.js_tree.specs.declared.node.Span.{Span}
use Rattle.js_tree.specs.declared.script.Script.{Script}
use Rattle.js_tree.specs.declared.tree.Stmts.{Stmts}
use Rattle.js_tree.specs.Spans.{IsWithin}
use Rattle.js_semantics.specs.Run as runs
use Rattle.js_semantics.specs.Makers.{script_term}
use Rattle.js_semantics.specs.Terms.{Terms, more, end}
use Rattle.locations.specs.Marks.{Marks, statements_marks}
use Rattle.locations.specs.Kinds.{kind_at}
use Rattle.locations.specs.Locations.{locations_below}
use Rattle.locations.specs.Search.{first_from, is_between}
use Rattle.locations.specs.declared.spot.Spot.{Spot}
use Rattle.cdp_json.specs.declared.params.Location.{Location}
use Rattle.cdp_session_messages.specs.Results.{spot_locations}
use Rattle.cdp_session.specs.Rows.{Row, answers, end_of, in_script, possible_in}
use Rattle.cdp_session.specs.Sessions.{Session}
use Rattle.cdp_session.specs.Situations.{script_of}
use Rattle.breakpoints.specs.Resolving.{place_in}
use Rattle.cdp_host_worked_runs.specs.Journals as journals
use Rattle.cdp_host_worked_runs.specs.Journals.{Call, Outcome, outcome_by}
use Rattle.cdp_host_worked_runs.specs.Worked.{Worked, IsWorked}
use Rattle.cdp_host_worked_runs.proofs.Alike.{AreRead, Reads, protocol_by, outcome-same}
use Rattle.std.specs.Fmt.{digits}
use Rattle.std.specs.Str.{chars}
use Rattle.std.specs.Char.Utf16.{utf16_chars}
use lib.Utf8.{encode}
use lib.Ieee.{round}
use Rattle.std.specs.Float.Numeral.{scan_numeral}
use Rattle.json.specs.Json.{items, members, value}
use Rattle.json.specs.Lex.{lex, punctuate}
use Rattle.json.specs.Print.{escape_byte, print_from}
use Rattle.json.specs.Text.{code_unit, short_escape, content}
use Rattle.json.specs.Word.{after_number, word}
use Rattle.serde_json.specs.Read.{number_of}
use Rattle.sha2.specs.Sha256.{first_words, schedule, rounds, compress, hash_after, digest_bytes, sha256}
use Rattle.hex.specs.Hex.{encode_with}
use Rattle.cdp_text.specs.Units.{utf16_of, utf8_of}
use Rattle.cdp_text.specs.Position.{position, line_starts, lines}
use Rattle.cdp_host.specs.Programs.{arrival_of}
use Rattle.cdp_host.specs.Standings.{standing_of, ending_of}
use Rattle.cdp_session_messages.specs.Outboxes.{fits}
use Rattle.cdp_session_messages.specs.Scripts.{script_parsed_text}
use Rattle.cdp_session.specs.Conditions.{holds}
use Rattle.std.specs.Float.{float_is_finite}
use Rattle.cdp_text.specs.Decimal.{decimal_value}
use Rattle.remote_objects.specs.ByValue.{object_given}
use Rattle.js_lexer.specs.Punctuators.{punctuators}
use Rattle.js_lexer.specs.Scanning.{gap_len, token_at, items as tokens_of}
use Rattle.js_lexer.specs.Words.{reserved_words}
use Rattle.js_parser_readers.specs.Parsing.{key_at, property_at, properties_at, function_at, primary, links, call, postfix, unary, chain, operation, arrow_rest, arrow_of_one, arrow_of_list, joined, assignment, expression, if_at, for_at, handler_at, finalizer_at, try_at, statement, lexical_at, declaration_at, item, below, parse_script, parse_expression, parse_function}
use Rattle.js_parser_readers.specs.Productions.{arguments_before, more_assignments, names_before, parameters_at, items_at, braces, code_at, declarator_at, declarators_at, optional_before, ended_expression, expect_name}
use Rattle.js_parser_readers.specs.Reading.{expect, expect_near, name_at, fresh_name, word_at, semicolon_at, elements, others, items as items_reading}
use Rattle.js_parser.specs.Expressions.{expression_of, function_of}
use Rattle.js_parser_numbering.specs.Numbered.{numbered_made}
use Rattle.js_parser_numbering.specs.Numbering.{give, both, of_part, node, leaf}

-- a script with this text and this tree
abbrev pub given : (w : Worked) (body : Stmts) → All (IsWithin (length w.source)) w.spans → Script
given w body within = record {
  number = 1;
  url = codes "a.js";
  source = w.source;
  body = body;
  spans = w.spans;
  within = within;
}

abbrev With : (Script → Type 0) → Stmts → ℕ → List ℕ → List ℕ → List Span → Type 0
With P body number url source spans =
    (within : All (IsWithin (length source)) spans)
    → P (record { number = number; url = url; source = source; body = body; spans = spans; within = within })

pub of-worked : (P : Script → Type 0) (w : Worked) (s : Script)
    → IsWorked w s
    → ((within : All (IsWithin (length w.source)) w.spans) → P (given w s.body within))
    → P s
of-worked P w s is k =
    let here : With P s.body s.number s.url s.source s.spans =
    subst (λ n. With P s.body n s.url s.source s.spans) (sym is.number)
    (subst (λ u. With P s.body 1 u s.source s.spans) (sym is.url)
    (subst (λ t. With P s.body 1 (codes "a.js") t s.spans) (sym is.source)
    (subst (λ sp. With P s.body 1 (codes "a.js") w.source sp) (sym is.spans) k)))
    in here s.within

-- the break locations of a text with these spans and marks
abbrev pub spots : List ℕ → List Span → Marks → List Spot
spots source spans marks = locations_below source (kind_at spans marks) (suc (length source))

-- where a position of a URL resolves in a script with these marks
abbrev pub by_url : Worked → Marks → List ℕ → Pos → List Place
by_url w marks url p =
    option_to_list
    (if bytes_eq (codes "a.js") url then option_map (place_in 1) (first_from p (spots w.source w.spans marks))
    else None) ++ []

-- where a place does
abbrev pub at_place : Worked → Marks → Place → Option Place
at_place w marks place =
    if nat_eq 1 place.script then option_map (place_in 1) (first_from place.pos (spots w.source w.spans marks))
    else None

-- what its break locations between two positions come to
abbrev pub between : Marks → Session → Location → Option Location → Script → Row
between marks x start stop script =
    answers
    (spot_locations script.number
    (filter (is_between start.position (end_of stop)) (spots script.source script.spans marks))) x

between-same : (marks : Marks) (x : Session) (start : Location) (stop : Option Location)
    (script : Script) (found : Bool)
    → statements_marks script.body ≡ marks
    → in_script (if found then Some script else None) start.script_id (possible_in x start.position (end_of stop))
    ≡ in_script (if found then Some script else None) start.script_id (between marks x start stop)
between-same marks x start stop script true is =
    ap (λ marks. between marks x start stop script) is
between-same marks x start stop script false is = refl

abbrev pub read_in : Worked → Script → Reads
read_in w script = record {
  by_url = by_url w w.marks;
  at = at_place w w.marks;
  between = λ x start stop.
      in_script (script_of start.script_id (script ∷ [])) start.script_id (between w.marks x start stop);
}

are-read : (w : Worked) (body : Stmts) (within : All (IsWithin (length w.source)) w.spans)
    → statements_marks body ≡ w.marks
    → AreRead (given w body within ∷ []) (read_in w (given w body within))
are-read w body within is = record {
  by_url = λ url p. ap (λ marks. by_url w marks url p) is;
  at = λ place. ap (λ marks. at_place w marks place) is;
  between = λ x start stop.
      between-same w.marks x start stop (given w body within) (bytes_eq (decimal 1) start.script_id) is;
}

abbrev pub terms : Worked → Terms
terms w = more (script_term 1 w.made) end

-- what a journal of a worked script comes to
unfoldable pub played : Worked → Script → List (List ℕ) → Bool → ℕ → List Call → Outcome
unfolding digits chars utf16_chars encode round scan_numeral items members value lex punctuate escape_byte print_from
    code_unit short_escape content after_number word number_of first_words schedule rounds compress hash_after
    digest_bytes sha256 encode_with utf16_of utf8_of position line_starts lines arrival_of standing_of ending_of
    fits script_parsed_text holds float_is_finite decimal_value punctuators gap_len token_at tokens_of
    reserved_words key_at property_at properties_at function_at primary links call postfix unary chain operation
    arrow_rest arrow_of_one arrow_of_list joined assignment expression if_at for_at handler_at finalizer_at try_at
    statement lexical_at declaration_at item below parse_script parse_expression parse_function arguments_before
    more_assignments names_before parameters_at items_at braces code_at declarator_at declarators_at optional_before
    ended_expression expect_name expect expect_near name_at fresh_name word_at semicolon_at elements others
    items_reading expression_of function_of numbered_made give both of_part node leaf
    object_given
played w script input wait s calls =
    outcome_by (protocol_by (terms w) (read_in w script) (script ∷ []))
    (meanings.begin (runs.start (terms w) input) wait) s calls

pub worked-out : (w : Worked) (input : List (List ℕ)) (wait : Bool) (s : ℕ) (calls : List Call) (outcome : Outcome)
    → ((body : Stmts) (within : All (IsWithin (length w.source)) w.spans)
    → played w (given w body within) input wait s calls ≡ outcome)
    → (script : Script) → IsWorked w script → journals.outcome (script ∷ []) input wait s calls ≡ outcome
unfolding played
worked-out w input wait s calls outcome computed script is =
    of-worked (λ script. journals.outcome (script ∷ []) input wait s calls ≡ outcome) w script is
    (λ within.
    outcome-same (given w script.body within ∷ []) (terms w) (read_in w (given w script.body within)) input wait s calls
    (ap (λ m. more (script_term 1 m) end) is.made) (are-read w script.body within is.marks)
    ∙ computed script.body within)
