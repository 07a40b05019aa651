-- The journal of a day file is the journal of one history, which is read back.
use Rattle.std.proofs.Common.{◌≡◌, ◌*◌, ◌<◌, ◌≤◌, ◌&&◌, ℕ, zero, suc, List, Bool, true, All, filter, length, refl, arith}
use Rattle.std.proofs.lemmas.List.{length-map}
use Rattle.std.specs.Prelude.{◌==◌, nat_lt}
use Rattle.std.proofs.lemmas.Bool.{leb-true, ltb-true}
use Rattle.std.proofs.lemmas.List.Elements.{All-filter, All-map, All-weaker}
use Rattle.std.proofs.lemmas.List.Sums.{count_by-le-length, length-filter}
use Rattle.road_graph.specs.Ranges.{is_limit, is_rating}
use Rattle.road_graph.specs.Roads.{IsRoads, Roads}
use Rattle.restriction_log.specs.Changes.{replaced_by, takes, takes_replaced}
use Rattle.restriction_log.specs.declared.change.Replaced.{Replaced}
use Rattle.restriction_log.specs.declared.change.Replaced.TheVariants as replaced
use Rattle.road_graph.specs.declared.values.What.{What}
use Rattle.road_graph.specs.declared.values.What.TheVariants as what
use Rattle.journal_text.specs.declared.format.Format.TheVariants.{Three}
use Rattle.restriction_log.specs.declared.change.Change.{Change}
use Rattle.office_words.specs.declared.entry.Command.{Command}
use Rattle.office_words.specs.declared.entry.Command.TheVariants as command
use Rattle.office_words.specs.declared.entry.Entry.{Entry}
use Rattle.office_core.specs.Machine.{entries_by, opened}
use Rattle.office_core.proofs.Goods.{good_opened}
use Rattle.analyst_pool.proofs.Runs.{finished_short}
use Rattle.day_text.specs.Bounds.{IsCommandWithin}
use Rattle.day_text.specs.Scripts.{script_of}
use Rattle.day_text.specs.declared.orders.Order.{Order}
use Rattle.day_text.proofs.Counts.{below, below-le, count_all}
use Rattle.day_text.proofs.EveryDay.{day_bounded, day_keeps}
use Rattle.journal_reader.specs.Fits.{FitsChange, FitsIndex, FitsNumber, FitsReplaced}
use Rattle.journal_text.specs.Journals.{journal_of}
use Rattle.journal_reader.proofs.Answers.{has_journal, printed_is_read}
use Rattle.journal_reader.proofs.Whole.{one_history}
use Rattle.program_laws.specs.Laws.{DayHistoriesFit, DayJournalsHaveOneHistory, DayJournalsReadBack}
use Rattle.program_laws.proofs.Asking.{Asks, FitsCommand, finished_ask}
use Rattle.program_laws.proofs.Keys.{all_by}
use Rattle.program_laws.proofs.Fitting.{fits_opened, history_fits}
use Rattle.program_laws.proofs.Limiting.{both, most}

-- a change that the roads take may stand in a journal
index : (roads : Roads) (i : ℕ) (b : Bool) → IsRoads roads → (nat_lt i (length roads.segments) && b) ≡ true → FitsIndex i × (b ≡ true)
index roads i b is e =
    let h = both (nat_lt i (length roads.segments)) b e in
    let less : i < length roads.segments = ltb-true _ _ h.0 in
    (omega (arith, is.few_segments), h.1)

limit_small : (w : What) (n : ℕ) → is_limit w n ≡ true → FitsNumber n
limit_small what.Closed n e = omega (arith, leb-true n 1 e)
limit_small what.Height n e = omega (arith, most 1 999 n e)
limit_small what.Width n e = omega (arith, most 1 999 n e)
limit_small what.Length n e = omega (arith, most 1 9999 n e)
limit_small what.Gross n e = omega (arith, most 1 2000000 n e)
limit_small what.Allowance n e = omega (arith, leb-true n 100000 e)
limit_small what.Tridem n e = omega (arith, most 1 600000 n e)

replaced_fits : (roads : Roads) (r : Replaced) → IsRoads roads → takes_replaced roads r ≡ true → FitsReplaced r
replaced_fits roads (replaced.Limit segment w n) is e = let (i, b) = index roads segment _ is e in (i, limit_small w n b)
replaced_fits roads (replaced.Rating span permille) is e =
    let h = both (nat_lt span (length roads.spans)) (is_rating permille) e in
    let less : span < length roads.spans = ltb-true _ _ h.0 in
    (omega (arith, is.few_spans), omega (arith, leb-true _ _ h.1))

change_fits : (roads : Roads) (c : Change) → IsRoads roads → takes roads c ≡ true → FitsChange c
change_fits roads c = replaced_fits roads (replaced_by c)

command_fits : (roads : Roads) (c : Command) → IsRoads roads → IsCommandWithin roads c → FitsCommand c
command_fits roads (command.Apply a) is (first, last) = record { first = first; last = last }
command_fits roads (command.Post change) is h = change_fits roads change is h
command_fits roads (command.Day day) is h = h
command_fits roads (command.Surrender number) is h = omega (arith, h)
command_fits roads (command.Show number) is h = omega (arith, h)

script_fits : (roads : Roads) (orders : List Order) (i : ℕ) → IsRoads roads → All (λ o. IsCommandWithin roads o.command) orders → All FitsCommand (script_of i orders)
script_fits roads orders i is within =
    All-map FitsCommand (λ (o : Order). o.command) _ (All-filter _ (λ (o : Order). FitsCommand o.command) orders
    (All-weaker (λ (o : Order). IsCommandWithin roads o.command) (λ (o : Order). FitsCommand o.command) (λ o h. command_fits roads o.command is h) orders within))

-- of 17 entries for each of 4,096 commands, and 16 actors, there are few
below_same : (n : ℕ) → below (λ i. 69632) n ≡ 69632 * n
below_same zero = refl
below_same (suc n) = omega (arith, below_same n)

script_short : (orders : List Order) (i : ℕ) → length (script_of i orders) ≤ length orders
script_short orders i =
    let own = filter (λ (o : Order). o.actor == i) orders in
    omega (arith, length-map own (λ (o : Order). o.command), length-filter (λ (o : Order). o.actor == i) orders, count_by-le-length (λ (o : Order). o.actor == i) orders)

pub histories_fit : DayHistoriesFit
histories_fit bytes history h =
    let kept = day_keeps bytes h.file h.read in
    let bounds = day_bounded bytes h.file h.read in
    let n = length h.file.actors in
    let each : (i : ℕ) → i < n → length (entries_by i history) ≤ 69632 = λ i near.
    omega (arith, finished_short i (script_of i h.file.commands) (entries_by i history) (h.commands i near), script_short h.file.commands i, kept.few_commands) in
    let all = count_all (λ (e : Entry). e.caller) n history h.callers in
    let sum = below-le (λ i. length (entries_by i history)) (λ i. 69632) n each in
    let few : length history ≤ 69632 * n = omega (arith, all, sum, below_same n) in
    let asked = all_by (λ (e : Entry). e.caller) Asks n history h.callers (λ i near.
    finished_ask i (script_of i h.file.commands) (entries_by i history) (script_fits h.file.base.roads h.file.commands i bounds.roads bounds.commands) (h.commands i near)) in
    let callers = All-weaker (λ (e : Entry). e.caller < n) (λ (e : Entry). FitsIndex e.caller) (λ e low. omega (arith, low, kept.few_actors)) history h.callers in
    history_fits h.file.base bounds.roads bounds.base bounds.sizes 0 (opened h.file.day) history (omega (arith, few, kept.few_actors))
    (good_opened h.file.base h.file.day) (fits_opened h.file.day bounds.day) h.legal callers asked

pub journals_read_back : DayJournalsReadBack
journals_read_back bytes history answer h is = printed_is_read history answer (histories_fit bytes history h) is

pub journals_have_one_history : DayJournalsHaveOneHistory
journals_have_one_history bytes other history second h k same =
    one_history history second (journal_of history)
    (Three, (has_journal history (histories_fit bytes history h), refl))
    (Three, (has_journal second (histories_fit other second k), same))
