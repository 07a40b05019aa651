-- Which statuses come.
use Rattle.std.proofs.Common.{◌⊎◌, ℕ, Some, None, refl, subst, inl, inr}
use Rattle.command_line.specs.declared.asked.Asked.{Asked}
use Rattle.permit_program.specs.Commands.{command_of}
use Rattle.permit_program.specs.Laws.{CommandsJudgeOnce, EveryStatusIsNamed, IsStatus, OnlyDaysTell}
use Rattle.permit_program.specs.Runs.{IsPlain, Outside, RefusedBytes, RefusedFile, most_bytes}
use Rattle.permit_program.proofs.Lawful.{IsRefusalStatus, lawful, tells}

plain_named : (status : ℕ) → IsPlain status → IsStatus status
plain_named status (inl e) = inl e
plain_named status (inr (inl e)) = inr (inl e)
plain_named status (inr (inr (inl e))) = inr (inr (inl e))
plain_named status (inr (inr (inr (inl e)))) = inr (inr (inr (inl e)))
plain_named status (inr (inr (inr (inr (inl e))))) = inr (inr (inr (inr (inr (inr (inl e))))))
plain_named status (inr (inr (inr (inr (inr e))))) = inr (inr (inr (inr (inr (inr (inr (inl e)))))))

refusal_named : (status : ℕ) → IsRefusalStatus status → IsStatus status
refusal_named status (inl e) = inr (inr (inr (inr (inl e))))
refusal_named status (inr (inl e)) = inr (inr (inr (inr (inr (inl e)))))
refusal_named status (inr (inr (inl e))) = inr (inr (inr (inr (inr (inr (inr (inr (inl e))))))))
refusal_named status (inr (inr (inr e))) = inr (inr (inr (inr (inr (inr (inr (inr (inr e))))))))

refused_named : {S K : Type 0} (most status : ℕ) (a : Asked) (before after : Outside S K) → RefusedBytes most status (command_of a) before after ⊎ RefusedFile most status (command_of a) before after → IsStatus status
refused_named most status a before after (inl bytes) = refusal_named status (inr (inl bytes.is_status))
refused_named most status a before after (inr refused) =
    refusal_named status (subst IsRefusalStatus refused.is_status ((lawful a.task a.options).statuses refused.bytes refused.answer refused.refused))

pub all_named : {S K : Type 0} → EveryStatusIsNamed S K
all_named None before after status run = elim run.refused [ inl plain ↦ plain_named status plain | inr none ↦ absurd none ]
all_named (Some a) before after status run = elim run.refused [ inl plain ↦ plain_named status plain | inr refused ↦ refused_named most_bytes status a before after refused ]

pub judge_once : CommandsJudgeOnce
judge_once asked bytes a b so also = (lawful asked.task asked.options).once bytes a b so also

pub only_days : {S K : Type 0} → OnlyDaysTell S K
only_days None before after run = run.untold refl
only_days (Some a) before after run = tells a.task a.options before after (run.untold refl)
