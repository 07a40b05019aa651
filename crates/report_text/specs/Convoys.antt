-- The report of `convoy`, line by line, and the line for trucks that are no convoy. Words are separated by one space, numbers are
-- decimal, and each line ends with a line feed.
use Rattle.std.specs.Prelude.{◌≡◌, ℕ, List, [], ◌∷◌, ◌++◌, codes}
use Rattle.std.specs.Fmt.{decimal}
use Rattle.influence_line.specs.Fractions.{Ratio, ratio_text}
use Rattle.span_rating.specs.declared.loading.Effects.{Effects}
use Rattle.span_rating.specs.Loading.{AreEffects}
use Rattle.span_rating.specs.Judgement.{fit_of}
use Rattle.hs20_truck.specs.Effects.{design_of}
use Rattle.convoy_moves.specs.Convoys.{EqualTrucks, IsConvoyPlaced}
use Rattle.convoy_moves.specs.Refusals.{axles_together, gross_together, refusal_number}
use Rattle.convoy_moves.specs.declared.refusal.ConvoyRefusal.{ConvoyRefusal}
use Rattle.day_text.specs.declared.check_file.Probe.{Probe}
use Rattle.report_text.specs.Probes.{AreTexts, rating_line, span_line}

-- convoy TRUCKS gap GAP axles N gross G, where the axles and the gross weight are those of all trucks together
abbrev pub convoy_line : EqualTrucks → List ℕ
convoy_line c =
    codes "convoy " ++ (decimal c.trucks ++ (codes " gap " ++ (decimal c.gap
    ++ (codes " axles " ++ (decimal (axles_together c.axles c.trucks) ++ (codes " gross " ++ (decimal (gross_together c.axles c.trucks) ++ (10 ∷ []))))))))

-- moment FRACTION
abbrev pub moment_fraction_line : Ratio → List ℕ
moment_fraction_line moment = codes "moment " ++ (ratio_text moment ++ (10 ∷ []))

-- shear FRACTION
abbrev pub shear_fraction_line : Ratio → List ℕ
shear_fraction_line shear = codes "shear " ++ (ratio_text shear ++ (10 ∷ []))

-- the first three lines on a probe: the span, and the convoy's peaks on it
abbrev pub convoy_peaks_text : Probe → Effects → List ℕ
convoy_peaks_text probe convoy = span_line probe ++ moment_fraction_line convoy.moment ++ shear_fraction_line convoy.shear

-- the four lines on a probe of a convoy with these effects: the last says whether they are within the rating, in thousandths of
-- those of the HS20-44 truck
abbrev pub convoy_text : Probe → Effects → List ℕ
convoy_text probe convoy = convoy_peaks_text probe convoy ++ rating_line probe.rating (fit_of convoy (design_of probe.inches) probe.rating)

-- what is written of a convoy on one probe, by its peaks over all of its placements
pub record IsConvoyText (c : EqualTrucks) (probe : Probe) (text : List ℕ) : Type 0 where
  pub convoy : Effects
  pub peaks : AreEffects (IsConvoyPlaced c) probe.inches convoy
  pub lines : text ≡ convoy_text probe convoy

-- the report on a convoy: what it is, and then what is written of it on each probe, in their order
pub record IsConvoyReport (c : EqualTrucks) (probes : List Probe) (text : List ℕ) : Type 0 where
  pub texts : List ℕ
  pub each : AreTexts (IsConvoyText c) probes texts
  pub lines : text ≡ convoy_line c ++ texts

-- no other text is the report on this convoy
abbrev pub IsOnlyConvoyReport : EqualTrucks → List Probe → List ℕ → Type 0
IsOnlyConvoyReport c probes text = (other : List ℕ) → IsConvoyReport c probes other → other ≡ text

-- refused: convoy C, with the number of the first limit that the trucks pass together
abbrev pub convoy_refusal_line : ConvoyRefusal → List ℕ
convoy_refusal_line refusal = codes "refused: convoy " ++ (decimal (refusal_number refusal) ++ (10 ∷ []))
