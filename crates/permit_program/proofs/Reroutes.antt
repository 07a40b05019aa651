-- What `reroute` makes of a day, and that it judges bytes in one way alone.
use Rattle.std.proofs.Common.{◌≡◌, ◌≤◌, ℕ, List, length, Option, Some, None, refl, ap, arith, subst, sym, ◌∙◌, inl, inr}
use Rattle.std.specs.Prelude.{Result, Ok, Err}
use Rattle.std.specs.String.{string_bytes}
use Rattle.road_graph.specs.Roads.{IsRoads}
use Rattle.day_text.specs.declared.refusal.Cause.{Cause}
use Rattle.day_text.specs.declared.refusal.FileRefusal.{FileRefusal}
use Rattle.day_text.specs.declared.refusal.FileRefusal.TheVariants as file
use Rattle.day_text.specs.Days.{DayParts, day_of}
use Rattle.day_text.specs.Refusals.{IsRefusedAs}
use Rattle.office_words.specs.declared.entry.Entry.{Entry}
use Rattle.day_trial.specs.Rerouted.{IsRerouted, IsTooLong, ReroutedHistoriesAreOne}
use Rattle.report_text.specs.RecallLines.{reroute_text}
use Rattle.permit_program.specs.Command.{Answer, IsCommandAnswer, IsAnswerTo, IsRefusalOf, Makes}
use Rattle.permit_program.specs.Reroute.{HasRoomFor, IsReroute, JudgesDay, JudgesFile, answer_to_entries, reroute}
use Rattle.permit_program.specs.declared.refusal.Refusal.{Refusal}
use Rattle.permit_program.specs.declared.refusal.Refusal.TheVariants as refusal

-- no day is too long that has room for its entries
not_both : (f : DayParts) → HasRoomFor f → IsTooLong f → ⊥
not_both f room long = omega (arith, room.short, long.each room.history room.rerouted)

day_once : (f : DayParts) (a b : Option Answer) → JudgesDay f a → JudgesDay f b → a ≡ b
day_once f a b (inl (room, is)) (inl (also, too)) = sym is ∙ too
day_once f a b (inl (room, is)) (inr (long, too)) = absurd (not_both f room long)
day_once f a b (inr (long, is)) (inl (room, too)) = absurd (not_both f room long)
day_once f a b (inr (long, is)) (inr (also, too)) = sym is ∙ too

file_once : (told : Result DayParts (ℕ × Cause)) (a b : Option Answer) → JudgesFile told a → JudgesFile told b → a ≡ b
file_once (Ok f) a b so also = day_once f a b so also
file_once (Err refused) a b so also = sym so ∙ also

pub reroutes_once : (bytes : List ℕ) (a b : Option Answer) → reroute.Judges bytes a → reroute.Judges bytes b → a ≡ b
reroutes_once bytes a b so also = file_once (day_of bytes) a b so also

module _ (bytes : List ℕ) (f : DayParts) (read : day_of bytes ≡ Ok f) where
  judged : (judgement : Option Answer) → JudgesDay f judgement → reroute.Judges bytes judgement
  judged judgement judges = subst (λ (told : Result DayParts (ℕ × Cause)). JudgesFile told judgement) (sym read) judges

  -- the text of the one history of a day is the one text
  pub rerouted_made : ReroutedHistoriesAreOne → IsRoads f.base.roads → (history : List Entry) → IsRerouted f history → length history ≤ 1000000
      → (text : List ℕ) → text ≡ reroute_text (length f.actors) history → Makes reroute bytes text
  rerouted_made one roads history rerouted short text is = record {
    taken = judged None (inl (record { history = history; rerouted = rerouted; short = short }, refl));
    output = record { file = f; read = read; history = history; rerouted = rerouted; lines = is };
    only = λ free other h. only_text h;
  }
    where
      only_text : {other : List ℕ} → IsReroute bytes other → other ≡ text
      only_text h =
          let same : h.file ≡ f = cc (h.read, read) in
          let theirs : IsRerouted f h.history = subst (λ (g : DayParts). IsRerouted g h.history) same h.rerouted in
          h.lines ∙ (ap (λ (g : DayParts). reroute_text (length g.actors) h.history) same
          ∙ (ap (reroute_text (length f.actors)) (one f history h.history roads rerouted theirs) ∙ sym is))

  -- a day that is too long is refused
  pub refused_long : IsTooLong f → (r : Refusal) → IsCommandAnswer answer_to_entries r → IsRefusalOf reroute bytes r
  refused_long long (refusal.Refused status line) answers = judged (Some (record { status = status; line = string_bytes line })) (inr (long, ap Some answers))
  refused_long long refusal.NoMemory answers = tt
