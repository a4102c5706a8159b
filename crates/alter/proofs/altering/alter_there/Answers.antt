use mathlib.Core.Path.{refl, sym, ◌∙◌, ap}
use Rattle.alter.proofs.AmountLaws.{Alters, amount_refused, debit_alters, credit_alters}
use Rattle.alter.proofs.ExchangeLaws.{comes_as}
use Rattle.alter.proofs.altering.alter_there.Goals as goal
use Rattle.alter.proofs.altering.alter_there.Goals.{in-Debit, in-Credit}

pub returns-then-not-carries : goal.returns-then-not-carries
returns-then-not-carries c = rw c.at-unfit.ensures (amount_refused c.args.way c.args.file.now c.args.k c.args.amount c.requires.0 c.locate-places.result c.locate-places.ensures c.entry_said-said.result.code c.entry_said-said.ensures.0 (sym c.carries.ensures ∙ c.if-not-carries.true))

pub exchange-requires : goal.exchange-requires
exchange-requires c =
    let carried = sym c.carries.ensures ∙ c.if-not-carries.false in
    elim c.match-said.branch [
      | in-Debit w ↦ rw w.total-is (debit_alters c.args.way c.args.file.now c.args.k c.args.amount c.requires.0 c.locate-places.result c.locate-places.ensures c.entry_said-said.result.code _ _ _ _ c.entry_said-said.ensures.0 c.entry_said-said.ensures.1 carried w.in-Debit.is refl (ap (λ x. x.debit) c.requires.1)).0
      | in-Credit w ↦ rw w.total-is (credit_alters c.args.way c.args.file.now c.args.k c.args.amount c.requires.0 c.locate-places.result c.locate-places.ensures c.entry_said-said.result.code _ _ _ _ c.entry_said-said.ensures.0 c.entry_said-said.ensures.1 carried w.in-Credit.is refl (ap (λ x. x.credit) c.requires.1)).0
    ]

pub returns : goal.returns
returns c =
    let carried = sym c.carries.ensures ∙ c.if-not-carries.false in
    let alters : Alters c.args.way c.args.file.now c.args.k c.args.amount c.requires.0 c.locate-places.result c.locate-places.ensures c.match-said.total.0 c.match-said.total.1 c.entry_said-said.result.amount =
    elim c.match-said.branch [
      | in-Debit w ↦ rw w.total-is (debit_alters c.args.way c.args.file.now c.args.k c.args.amount c.requires.0 c.locate-places.result c.locate-places.ensures c.entry_said-said.result.code _ _ _ _ c.entry_said-said.ensures.0 c.entry_said-said.ensures.1 carried w.in-Debit.is refl (ap (λ x. x.debit) c.requires.1))
      | in-Credit w ↦ rw w.total-is (credit_alters c.args.way c.args.file.now c.args.k c.args.amount c.requires.0 c.locate-places.result c.locate-places.ensures c.entry_said-said.result.code _ _ _ _ c.entry_said-said.ensures.0 c.entry_said-said.ensures.1 carried w.in-Credit.is refl (ap (λ x. x.credit) c.requires.1))
    ] in
    comes_as alters.1 c.exchange.ensures
