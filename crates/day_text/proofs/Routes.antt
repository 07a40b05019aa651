-- Whether the parts of a text, which are counted, are few routes is told part by part.
use Rattle.std.proofs.Common.{◌≡◌, ◌<◌, ◌≤◌, ℕ, List, true, false, arith, length, nat_le, sym}
use Rattle.std.specs.Prelude.{is_some}
use Rattle.std.specs.List.{list_all}
use Rattle.std.proofs.lemmas.Bool.Decides.{nat_tests}
use Rattle.day_text.specs.Fields.{few_routes, route_of}
use Rattle.day_text.proofs.Each.{each_there}

pub few_there : (parts : List (List ℕ)) (n : ℕ) → n ≡ length parts → n ≤ 8 → list_all (λ part. is_some (route_of part)) parts ≡ is_some (few_routes parts)
few_there parts n count few =
    let is : nat_le (length parts) 8 ≡ true = grind (arith, nat_tests) in
    rw is (sym (each_there route_of parts))

pub too_many : (parts : List (List ℕ)) (n : ℕ) → n ≡ length parts → 8 < n → nat_le n 8 ≡ is_some (few_routes parts)
too_many parts n count many =
    let is : nat_le (length parts) 8 ≡ false = grind (arith, nat_tests) in
    let no : nat_le n 8 ≡ false = grind (arith, nat_tests) in
    rw is no
