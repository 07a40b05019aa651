-- What the test of legality means.
use Rattle.std.proofs.Common.{◌≡◌, ◌↔◌, Bool, true, leb, sym, ◌∙◌}
use Rattle.std.proofs.lemmas.Bool.{and_from, and_parts, leb-true, le-leb}
use Rattle.axle_limits.specs.declared.legal.TheConstants.{LEGAL_HEIGHT, LEGAL_WIDTH}
use Rattle.axle_limits.specs.Findings.{is_legal_by_weight}
use Rattle.axle_limits.proofs.ByWeight.{legal_by_weight_means}
use Rattle.clearance_rules.specs.Loads.{LoadParts, IsLegalLoad, is_legal, is_legal_size}

legal_only : (load : LoadParts) → is_legal load ≡ true → IsLegalLoad load
legal_only load h =
    let parts = and_parts (is_legal_by_weight load.train) (is_legal_size load.height load.width) h in
    let size = and_parts (leb load.height LEGAL_HEIGHT) (leb load.width LEGAL_WIDTH) parts.1 in
    record {
      by_weight = (legal_by_weight_means load.train).0 parts.0;
      height = leb-true load.height LEGAL_HEIGHT size.0;
      width = leb-true load.width LEGAL_WIDTH size.1;
    }

legal_if : (load : LoadParts) → IsLegalLoad load → is_legal load ≡ true
legal_if load is =
    and_from (is_legal_by_weight load.train) (is_legal_size load.height load.width) ((legal_by_weight_means load.train).1 is.by_weight)
    (and_from (leb load.height LEGAL_HEIGHT) (leb load.width LEGAL_WIDTH) (le-leb load.height LEGAL_HEIGHT is.height) (le-leb load.width LEGAL_WIDTH is.width))

-- a load passes the test exactly where it is legal
pub legal_means : (load : LoadParts) (legal : Bool) → legal ≡ is_legal load → (legal ≡ true) ↔ IsLegalLoad load
legal_means load legal e = (λ h. legal_only load (sym e ∙ h), λ is. e ∙ legal_if load is)
