-- What the reports on probes have in common: two of their lines, and that the texts on several probes follow one another.
use Rattle.std.specs.Prelude.{◌≡◌, ℕ, List, [], ◌∷◌, ◌++◌, codes}
use Rattle.std.specs.Fmt.{decimal}
use Rattle.std.specs.String.{string_bytes}
use Rattle.std.specs.declared.string.String.{String}
use Rattle.span_rating.specs.declared.judgement.Fit.{Fit}
use Rattle.span_rating.specs.declared.judgement.Fit.TheVariants.{Fits, Moment, Shear}
use Rattle.day_text.specs.declared.check_file.Probe.{Probe}

-- a text grew by this
abbrev pub TextGrew : {Z : Type 0} → String Z → String Z → List ℕ → Type 0
TextGrew old new more = string_bytes new ≡ string_bytes old ++ more

-- span INCHES
abbrev pub span_line : Probe → List ℕ
span_line probe = codes "span " ++ (decimal probe.inches ++ (10 ∷ []))

-- the word for a judgement by a rating
abbrev pub fit_name : Fit → List ℕ
fit_name Fits = codes "fits"
fit_name Moment = codes "moment"
fit_name Shear = codes "shear"

-- rating R fits, or the first effect that is over the rating
abbrev pub rating_line : ℕ → Fit → List ℕ
rating_line rating fit = codes "rating " ++ (decimal rating ++ (codes " " ++ (fit_name fit ++ (10 ∷ []))))

-- a text of each of these things, one after another
abbrev pub AreTexts : {X : Type 0} → (X → List ℕ → Type 0) → List X → List ℕ → Type 0
AreTexts IsText [] text = text ≡ []
AreTexts IsText (x ∷ xs) text = (one : List ℕ) × (rest : List ℕ) × IsText x one × AreTexts IsText xs rest × (text ≡ one ++ rest)

-- a text grew by one of these
abbrev pub AddsOne : (List ℕ → Type 0) → List ℕ → List ℕ → Type 0
AddsOne IsText old new = (one : List ℕ) × IsText one × (new ≡ old ++ one)
