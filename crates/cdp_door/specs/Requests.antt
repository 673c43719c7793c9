-- What a door looks at in a request head.
use Rattle.std.specs.Prelude.{ℕ, List, take, map}
use Rattle.httparse.specs.Grammar.{RequestHead}
use Rattle.httparse.specs.Spans.{span_bytes, header_bytes, name_and_value}
use Rattle.httparse.specs.declared.spans.HeaderSpan.{HeaderSpan}
use Rattle.httparse.specs.declared.spans.RequestSpans.{RequestSpans}

-- the minor version, the method, the target, and the fields, each as its name and its value
pub record Asked : Type 0 where
  pub minor : ℕ
  pub method : List ℕ
  pub target : List ℕ
  pub fields : List (List ℕ × List ℕ)

-- what a head asks
abbrev pub asked_by : RequestHead → Asked
asked_by head = record {
  minor = head.minor;
  method = head.method;
  target = head.target;
  fields = map name_and_value head.fields;
}

-- what a head asks whose parts lie at these places of its bytes
abbrev pub asked_at : List ℕ → List HeaderSpan → RequestSpans → Asked
asked_at bytes headers spans = record {
  minor = spans.version;
  method = span_bytes bytes spans.method;
  target = span_bytes bytes spans.path;
  fields = map (header_bytes bytes) (take spans.headers headers);
}
