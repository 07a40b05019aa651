-- The commands that are made are accepted.
use Rattle.std.proofs.Common.{◌≡◌, ◌≢◌, ◌∙◌, ◌<◌, ◌≤◌, ◌+◌, ◌*◌, ◌∷◌, ◌++◌, [], ℕ, zero, suc, List, Ok, Some, None, Bool, true, false, refl, ap, sym, arith, length, length-append}
use Rattle.std.specs.Prelude.{codes, if◌then◌else◌, ◌==◌}
use Rattle.std.specs.Fmt.{decimal}
use Rattle.std.proofs.lemmas.Bool.{le-leb, lt-ltb, ne_eqb}
use Rattle.csv.specs.Records.{field_at}
use Rattle.office_words.specs.declared.entry.Command.TheVariants as command
use Rattle.restriction_log.specs.declared.change.Change.TheVariants as change
use Rattle.road_graph.specs.Roads.{number_of as number_named}
use Rattle.trip_analysis.specs.Applications.{application_of}
use Rattle.day_text.specs.Commands.{apply_fields_of, post_of, posting_of, resolved_of}
use Rattle.day_text.specs.Days.{judge_day}
use Rattle.day_text.specs.Fleets.{truck_names}
use Rattle.day_text.specs.declared.orders.Order.{Order}
use Rattle.day_maker.specs.Making.{◌>>=◌, draw, put}
use Rattle.day_maker.specs.Made.{actor_name, application, command as made_command, commands, east_name, node_name, posting, truck_name}
use Rattle.day_writer.specs.Texts.{row}
use Rattle.day_maker.proofs.Fleets.{InTraffic, four_actors, four_trucks}
use Rattle.day_writer.proofs.Judge.{DaySoFar, open_day}
use Rattle.day_maker.proofs.Leading.{Leads, leads_draw, leads_each, leads_put}
use Rattle.day_maker.proofs.Leaves.{cell_injective, cell_ok, numbered_ok}
use Rattle.day_writer.proofs.Leaves.{number_ok}
use Rattle.day_writer.proofs.Named.{IsThere, one_name, there_now, there_still}
use Rattle.day_writer.proofs.Plain.{number_plain}
use Rattle.day_maker.proofs.Plain.{cell_plain, numbered_plain}

-- the engineer is the last actor
engineer : number_named (codes "eng") four_actors ≡ Some 3
engineer = refl

actor_there : (a : ℕ) → a < 3 → IsThere (actor_name (1 + a)) four_actors
actor_there zero h = there_still (actor_name 1) (actor_name 1 ∷ []) (actor_name 2 ∷ actor_name 3 ∷ codes "eng" ∷ []) (there_now (actor_name 1) [])
actor_there (suc zero) h = there_still (actor_name 2) (actor_name 1 ∷ actor_name 2 ∷ []) (actor_name 3 ∷ codes "eng" ∷ []) (there_now (actor_name 2) (actor_name 1 ∷ []))
actor_there (suc (suc zero)) h = there_still (actor_name 3) (actor_name 1 ∷ actor_name 2 ∷ actor_name 3 ∷ []) (codes "eng" ∷ []) (there_now (actor_name 3) (actor_name 1 ∷ actor_name 2 ∷ []))
actor_there (suc (suc (suc a))) h = absurd (omega arith)

truck_there : (t : ℕ) → t < 4 → IsThere (truck_name (1 + t)) four_trucks
truck_there zero h = there_still (truck_name 1) (truck_name 1 ∷ []) (truck_name 2 ∷ truck_name 3 ∷ truck_name 4 ∷ []) (there_now (truck_name 1) [])
truck_there (suc zero) h = there_still (truck_name 2) (truck_name 1 ∷ truck_name 2 ∷ []) (truck_name 3 ∷ truck_name 4 ∷ []) (there_now (truck_name 2) (truck_name 1 ∷ []))
truck_there (suc (suc zero)) h = there_still (truck_name 3) (truck_name 1 ∷ truck_name 2 ∷ truck_name 3 ∷ []) (truck_name 4 ∷ []) (there_now (truck_name 3) (truck_name 1 ∷ truck_name 2 ∷ []))
truck_there (suc (suc (suc zero))) h = there_now (truck_name 4) (truck_name 1 ∷ truck_name 2 ∷ truck_name 3 ∷ [])
truck_there (suc (suc (suc (suc t)))) h = absurd (omega arith)

abbrev Before : ℕ → ℕ → DaySoFar → Type 0
Before z n = InTraffic z four_trucks four_actors n

-- a command more
abbrev with_order : DaySoFar → Order → DaySoFar
with_order d order = record d { orders = d.orders ++ order ∷ [] }

one_more : (z n : ℕ) (d : DaySoFar) (order : Order) → Before z n d → Before z (n + 1) (with_order d order)
one_more z n d order at = record { nodes = at.nodes; east = at.east; fleet = at.fleet; actors = at.actors; orders = simp length-append (omega (arith, at.orders)) }

posting_put : (z n r c inches : ℕ) → z ≤ 40 → n < 4096 → r ≤ z → c < z → 1 ≤ inches → inches ≤ 999
    → Leads (Before z n) (put (row (codes "post" ∷ codes "eng" ∷ east_name r c ∷ codes "height" ∷ decimal inches ∷ []))) (Before z (n + 1))
unfolding post_of posting_of field_at
posting_put z n r c inches small few hr hc low high =
    leads_put (Before z n) (Before z (n + 1)) (row (codes "post" ∷ codes "eng" ∷ east_name r c ∷ codes "height" ∷ decimal inches ∷ []))
    (refl, (refl, (refl, (cell_plain 101 r c refl (omega arith) (omega arith), (refl, (number_plain inches (omega arith), (refl, (refl, (refl, tt)))))))))
    (λ d at. (with_order d (order d at), judges d at, one_more z n d (order d at) at))
  where
    order : (d : DaySoFar) → Before z n d → Order
    order d at = record { actor = 3; command = command.Post (change.Height (at.east r c hr hc).place inches) }

    judges : (d : DaySoFar) (at : Before z n d) → judge_day (open_day d) (row (codes "post" ∷ codes "eng" ∷ east_name r c ∷ codes "height" ∷ decimal inches ∷ [])) ≡ Ok (open_day (record d { orders = d.orders ++ record { actor = 3; command = command.Post (change.Height (at.east r c hr hc).place inches) } ∷ [] }))
    judges d at =
        let who : number_named (codes "eng") d.actors ≡ Some 3 = rw at.actors engineer in
        rw (cell_ok 101 r c refl (omega arith) (omega arith), number_ok inches (omega arith), who, (at.east r c hr hc).is, le-leb 1 inches low, le-leb inches 999 high, lt-ltb (length d.orders) 4096 (omega (arith, at.orders))) refl

posting_leads : (z n : ℕ) → 1 ≤ z → z ≤ 40 → n < 4096 → Leads (Before z n) (posting z) (Before z (n + 1))
unfolding posting
posting_leads z n some small few =
    leads_draw (Before z n) (Before z (n + 1)) (z + 1) (λ r. draw z >>= (λ c. draw 60 >>= (λ v. put (row (codes "post" ∷ codes "eng" ∷ east_name r c ∷ codes "height" ∷ decimal (150 + v) ∷ []))))) (omega arith)
    (λ r hr. leads_draw (Before z n) (Before z (n + 1)) z (λ c. draw 60 >>= (λ v. put (row (codes "post" ∷ codes "eng" ∷ east_name r c ∷ codes "height" ∷ decimal (150 + v) ∷ [])))) (omega arith)
    (λ c hc. leads_draw (Before z n) (Before z (n + 1)) 60 (λ v. put (row (codes "post" ∷ codes "eng" ∷ east_name r c ∷ codes "height" ∷ decimal (150 + v) ∷ []))) (omega arith)
    (λ v hv. posting_put z n r c (150 + v) small few (omega arith) hc (omega arith) (omega arith))))

abbrev apply_row : ℕ → ℕ → ℕ → List (List ℕ)
apply_row z a t = row (codes "apply" ∷ actor_name (1 + a) ∷ truck_name (1 + t) ∷ node_name 0 0 ∷ node_name z z ∷ [] ∷ codes "2026-01-01" ∷ codes "2026-12-31" ∷ [])

application_put : (z n a t : ℕ) → 1 ≤ z → z ≤ 40 → n < 4096 → a < 3 → t < 4 → Leads (Before z n) (put (apply_row z a t)) (Before z (n + 1))
unfolding apply_fields_of resolved_of field_at
application_put z n a t some small few ha ht =
    leads_put (Before z n) (Before z (n + 1)) (apply_row z a t)
    (refl, (refl, (numbered_plain 97 (1 + a) refl (omega arith), (numbered_plain 116 (1 + t) refl (omega arith), (cell_plain 110 0 0 refl (omega arith) (omega arith), (cell_plain 110 z z refl (omega arith) (omega arith), (refl, (refl, (refl, tt)))))))))
    (λ d at. (with_order d (order d at), judges d at, one_more z n d (order d at) at))
  where
    order : (d : DaySoFar) → Before z n d → Order
    order d at = record { actor = (actor_there a ha).place; command = command.Apply (application_of (truck_there t ht).place (at.nodes 0 0 (omega arith) (omega arith)).place (at.nodes z z (omega arith) (omega arith)).place None (codes "2026-01-01") (codes "2026-12-31")) }

    judges : (d : DaySoFar) (at : Before z n d) → judge_day (open_day d) (apply_row z a t) ≡ Ok (open_day (record d { orders = d.orders ++ record { actor = (actor_there a ha).place; command = command.Apply (application_of (truck_there t ht).place (at.nodes 0 0 (omega arith) (omega arith)).place (at.nodes z z (omega arith) (omega arith)).place None (codes "2026-01-01") (codes "2026-12-31")) } ∷ [] }))
    judges d at =
        let from : IsThere (node_name 0 0) d.network.nodes = at.nodes 0 0 (omega arith) (omega arith) in
        let to : IsThere (node_name z z) d.network.nodes = at.nodes z z (omega arith) (omega arith) in
        let who : number_named (actor_name (1 + a)) d.actors ≡ Some (actor_there a ha).place = rw at.actors (actor_there a ha).is in
        let what : number_named (truck_name (1 + t)) (truck_names d.fleet) ≡ Some (truck_there t ht).place = rw at.fleet (truck_there t ht).is in
        let apart : from.place ≢ to.place = (λ e. let same = cell_injective 110 0 0 110 z z (omega arith) (omega arith) (omega arith) (omega arith) (one_name (node_name 0 0) (node_name z z) d.network.nodes from.place from.is (to.is ∙ ap Some (sym e))) in absurd (omega (arith, same.1))) in
        rw (numbered_ok 97 (1 + a) refl (omega arith), numbered_ok 116 (1 + t) refl (omega arith), cell_ok 110 0 0 refl (omega arith) (omega arith), cell_ok 110 z z refl (omega arith) (omega arith), who, what, from.is, to.is, ne_eqb from.place to.place apart, lt-ltb (length d.orders) 4096 (omega (arith, at.orders))) refl

application_leads : (z n : ℕ) → 1 ≤ z → z ≤ 40 → n < 4096 → Leads (Before z n) (application z) (Before z (n + 1))
unfolding application
application_leads z n some small few =
    leads_draw (Before z n) (Before z (n + 1)) 3 (λ a. draw 4 >>= (λ t. put (apply_row z a t))) (omega arith)
    (λ a ha. leads_draw (Before z n) (Before z (n + 1)) 4 (λ t. put (apply_row z a t)) (omega arith)
    (λ t ht. application_put z n a t some small few ha ht))

-- a command
command_leads : (z n : ℕ) → 1 ≤ z → z ≤ 40 → n < 4096 → Leads (Before z n) (made_command z) (Before z (n + 1))
unfolding made_command
command_leads z n some small few =
    leads_draw (Before z n) (Before z (n + 1)) 4 (λ kind. if kind == 0 then posting z else application z) (omega arith)
    (λ kind hk. either (kind == 0))
  where
    either : (b : Bool) → Leads (Before z n) (if b then posting z else application z) (Before z (n + 1))
    either true = posting_leads z n some small few
    either false = application_leads z n some small few

pub commands_lead : (z : ℕ) → 1 ≤ z → z ≤ 40 → Leads (Before z 0) (commands z) (Before z (20 * z))
commands_lead z some small =
    leads_each (λ n. Before z n) (λ n. made_command z) (20 * z) 0 (20 * z) (omega arith) (λ n low high. command_leads z n some small (omega arith))
