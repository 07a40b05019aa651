-- A load: a truck as the road sees it, and whether it is legal.
use Rattle.std.specs.Prelude.{◌≡◌, ℕ, ◌≤◌, Bool, true, ◌&&◌, nat_le, List, Option, IfSome}
use Rattle.axle_train.specs.declared.axle.Axle.{Axle}
use Rattle.axle_train.specs.Bounds.{IsTrain}
use Rattle.axle_limits.specs.declared.legal.TheConstants.{LEGAL_HEIGHT, LEGAL_WIDTH}
use Rattle.axle_limits.specs.Findings.{IsLegalByWeight, is_legal_by_weight}
use Rattle.axle_limits.specs.Worst.{IsWorst, IsGroupInRange, worst_of}
use Rattle.axle_limits.specs.Tridems.{IsHeaviestTridem, heaviest_tridem_of}
use Rattle.axle_limits.specs.declared.tridem.Heaviest.{Heaviest}
use Rattle.axle_limits.specs.declared.worst_group.WorstGroup.{WorstGroup}

-- height, width and length in inches, and the axles
pub record LoadParts : Type 0 where
  pub height : ℕ
  pub width : ℕ
  pub length : ℕ
  pub train : List Axle

-- the load of these numbers and these axles
abbrev pub parts_of : ℕ → ℕ → ℕ → List Axle → LoadParts
parts_of height width length train = record { height = height; width = width; length = length; train = train }

-- height and width are 1 to 999 in
abbrev pub is_cross_section : ℕ → Bool
is_cross_section inches = nat_le 1 inches && nat_le inches 999

-- the length is 1 to 9,999 in
abbrev pub is_length : ℕ → Bool
is_length inches = nat_le 1 inches && nat_le inches 9999

-- all three numbers are in range
abbrev pub is_load : ℕ → ℕ → ℕ → Bool
is_load height width length = is_cross_section height && is_cross_section width && is_length length

-- within the legal height and width
abbrev pub is_legal_size : ℕ → ℕ → Bool
is_legal_size height width = nat_le height LEGAL_HEIGHT && nat_le width LEGAL_WIDTH

-- whether a load is legal
abbrev pub is_legal : LoadParts → Bool
is_legal load = is_legal_by_weight load.train && is_legal_size load.height load.width

-- the same in words: legal by weight, and within the legal height and width
pub record IsLegalLoad (load : LoadParts) : Type 0 where
  pub by_weight : IsLegalByWeight load.train
  pub height : load.height ≤ LEGAL_HEIGHT
  pub width : load.width ≤ LEGAL_WIDTH

-- what a load keeps: numbers in range, a train, its worst group, its heaviest tridem group, and whether it is legal
pub record IsLoadKept (load : LoadParts) (worst : WorstGroup) (tridem : Option Heaviest) (legal : Bool) : Type 0 where
  pub in_range : is_load load.height load.width load.length ≡ true
  pub is_train : IsTrain load.train
  pub is_worst : IsWorst load.train worst
  pub worst_is : worst ≡ worst_of load.train
  pub worst_in_range : IsGroupInRange worst
  pub is_tridem : IfSome tridem (IsHeaviestTridem load.train)
  pub tridem_is : tridem ≡ heaviest_tridem_of load.train
  pub legal_is : legal ≡ is_legal load
