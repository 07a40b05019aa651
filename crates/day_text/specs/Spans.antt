-- Spans to try a truck on.
use Rattle.std.specs.Prelude.{◌≤◌, List, All}
use Rattle.day_text.specs.declared.check_file.Probe.{Probe}

-- a span has 1 to 6,000 in, and its rating is at most 100,000 per mille
pub record IsProbeSpan (probe : Probe) : Type 0 where
  pub some : 1 ≤ probe.inches
  pub long : probe.inches ≤ 6000
  pub rating : probe.rating ≤ 100000

-- each span has 1 to 6,000 in, and a rating of at most 100,000 per mille
abbrev pub AreSpans : List Probe → Type 0
AreSpans probes = All IsProbeSpan probes
