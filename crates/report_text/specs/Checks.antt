-- The report of `check`, line by line. Words are separated by one space, numbers are decimal, and each line ends with a line feed.
use Rattle.std.specs.Prelude.{◌≡◌, ℕ, ◌+◌, nat_lt, if◌then◌else◌, List, [], ◌∷◌, ◌++◌, codes, length, sum_by}
use Rattle.std.specs.List.{flat_map}
use Rattle.std.specs.Fmt.{decimal, signed_decimal}
use Rattle.axle_train.specs.declared.axle.Axle.{Axle}
use Rattle.axle_train.specs.Bounds.{IsTrain}
use Rattle.axle_limits.specs.declared.finding.Finding.{Finding}
use Rattle.axle_limits.specs.declared.group.Rule.{Rule}
use Rattle.axle_limits.specs.declared.group.Rule.TheVariants.{Single, Tandem, Formula, TwoTandem, Gross}
use Rattle.axle_limits.specs.Findings.{findings_of}
use Rattle.axle_limits.specs.declared.legal.TheConstants.{LEGAL_HEIGHT, LEGAL_WIDTH}
use Rattle.influence_line.specs.Fractions.{ratio_text}
use Rattle.influence_line.specs.declared.placing.End.{End}
use Rattle.influence_line.specs.declared.placing.End.TheVariants.{Left, Right}
use Rattle.span_rating.specs.declared.loading.Effects.{Effects}
use Rattle.span_rating.specs.Judgement.{fit_of}
use Rattle.hs20_truck.specs.Effects.{design_of}
use Rattle.moment_peak.specs.Laws.{IsMomentPeak}
use Rattle.moment_peak.specs.declared.MomentPeak.{MomentPeak}
use Rattle.shear_peak.specs.Laws.{IsShearPeak}
use Rattle.shear_peak.specs.declared.ShearPeak.{ShearPeak}
use Rattle.clearance_rules.specs.Loads.{LoadParts, is_legal}
use Rattle.day_text.specs.Spans.{AreSpans}
use Rattle.trip_analysis.specs.declared.base.Truck.{Truck}
use Rattle.day_text.specs.declared.check_file.CheckFile.{CheckFile}
use Rattle.day_text.specs.declared.check_file.Probe.{Probe}
use Rattle.report_text.specs.Probes.{AreTexts, rating_line, span_line}

-- truck NAME axles N gross G
abbrev pub truck_line : Truck → List ℕ
truck_line truck =
    codes "truck " ++ (truck.name ++ (codes " axles " ++ (decimal (length truck.load.train) ++ (codes " gross " ++ (decimal (sum_by (λ a. a.weight) truck.load.train) ++ (10 ∷ []))))))

-- the word for a rule by which a weight is limited
abbrev pub rule_name : Rule → List ℕ
rule_name Single = codes "single"
rule_name Tandem = codes "tandem"
rule_name Formula = codes "formula"
rule_name TwoTandem = codes "two-tandem"
rule_name Gross = codes "gross"

-- over I-J WEIGHT LIMIT RULE, with axles counted from 1
abbrev pub over_line : Finding → List ℕ
over_line f =
    codes "over " ++ (decimal (f.i + 1) ++ (codes "-" ++ (decimal (f.j + 1) ++ (codes " " ++ (decimal f.weight ++ (codes " " ++ (decimal f.limit ++ (codes " " ++ (rule_name f.rule ++ (10 ∷ []))))))))))

-- high H 162, where the height is over the legal one
abbrev pub high_line : LoadParts → List ℕ
high_line load =
    if nat_lt LEGAL_HEIGHT load.height
    then codes "high " ++ (decimal load.height ++ (codes " " ++ (decimal LEGAL_HEIGHT ++ (10 ∷ []))))
    else []

-- wide W 102, where the width is over the legal one
abbrev pub wide_line : LoadParts → List ℕ
wide_line load =
    if nat_lt LEGAL_WIDTH load.width
    then codes "wide " ++ (decimal load.width ++ (codes " " ++ (decimal LEGAL_WIDTH ++ (10 ∷ []))))
    else []

-- whether the load is legal
abbrev pub legal_line : LoadParts → List ℕ
legal_line load = if is_legal load then codes "legal yes" ++ (10 ∷ []) else codes "legal no" ++ (10 ∷ [])

-- the report on a truck: what it is, each finding, what is too high or too wide, and whether it is legal
abbrev pub truck_text : Truck → List ℕ
truck_text truck =
    truck_line truck ++ flat_map over_line (findings_of truck.load.train) ++ high_line truck.load ++ wide_line truck.load ++ legal_line truck.load

-- moment FRACTION at Q LEAD SECTION axle K run F-L, with axles counted from 1
abbrev pub moment_peak_line : MomentPeak → List ℕ
moment_peak_line m =
    codes "moment " ++ (ratio_text m.value ++ (codes " at " ++ (decimal m.place.q ++ (codes " " ++ (signed_decimal m.place.lead ++ (codes " " ++ (decimal m.place.section ++ (codes " axle " ++ (decimal (m.axle + 1) ++ (codes " run " ++ (decimal (m.first + 1) ++ (codes "-" ++ (decimal (m.last + 1) ++ (10 ∷ []))))))))))))))

-- the word for an end of a span
abbrev pub end_name : End → List ℕ
end_name Left = codes "left"
end_name Right = codes "right"

-- shear FRACTION at LEAD END
abbrev pub shear_peak_line : ShearPeak → List ℕ
shear_peak_line s = codes "shear " ++ (ratio_text s.value ++ (codes " at " ++ (signed_decimal s.lead ++ (codes " " ++ (end_name s.end ++ (10 ∷ []))))))

-- hs20 MOMENT SHEAR, the peaks of the HS20-44 truck
abbrev pub design_line : Effects → List ℕ
design_line design = codes "hs20 " ++ (ratio_text design.moment ++ (codes " " ++ (ratio_text design.shear ++ (10 ∷ []))))

-- the first three lines on a probe: the span, and the truck's peaks
abbrev pub peaks_text : Probe → MomentPeak → ShearPeak → List ℕ
peaks_text probe m s = span_line probe ++ moment_peak_line m ++ shear_peak_line s

-- the last two: the peaks of the HS20-44 truck over every second spacing, and whether the truck's effects are within the
-- rating, in thousandths of those
abbrev pub judgement_text : Probe → Effects → List ℕ
judgement_text probe truck =
    design_line (design_of probe.inches) ++ rating_line probe.rating (fit_of truck (design_of probe.inches) probe.rating)

-- the five lines of a truck with these peaks on one probe
abbrev pub probe_text : Probe → MomentPeak → ShearPeak → List ℕ
probe_text probe m s = peaks_text probe m s ++ judgement_text probe (record { moment = m.value; shear = s.value })

-- what is written of a truck on one probe, by its peaks over every placement
abbrev pub IsProbeText : List Axle → Probe → List ℕ → Type 0
IsProbeText axles probe text =
    (m : MomentPeak) × (s : ShearPeak) × IsMomentPeak axles probe.inches m × IsShearPeak axles probe.inches s × (text ≡ probe_text probe m s)

-- the report on a check file: what is written of its truck, and then of each probe
abbrev pub IsReport : CheckFile → List ℕ → Type 0
IsReport file text =
    (probes : List ℕ) × AreTexts (IsProbeText file.truck.load.train) file.probes probes × (text ≡ truck_text file.truck ++ probes)

-- no other text is the report on this file
abbrev pub IsOnlyReport : CheckFile → List ℕ → Type 0
IsOnlyReport file text = (other : List ℕ) → IsReport file other → other ≡ text

-- all reports on this file are one
abbrev pub HasOneReport : CheckFile → Type 0
HasOneReport file = (a b : List ℕ) → IsReport file a → IsReport file b → a ≡ b

-- a check file has one report
abbrev pub ReportIsOne : Type 0
ReportIsOne = (file : CheckFile) → IsTrain file.truck.load.train → AreSpans file.probes → HasOneReport file
