use Rattle.std.proofs.Common.{◌≡◌, true, rules, sym, ◌∙◌}
use Rattle.text.specs.Rows.{columns}
use Rattle.text.specs.Decimal.{digits}
use Rattle.check_digit.proofs.GroupLaws.{digit_told, below}
use Rattle.check_alone.specs.Kinds.{leads}
use Rattle.check_alone.proofs.Laws.{need_ok}
use Rattle.check_alone.proofs.own.destination.Goals as goal

pub balanced-requires : goal.balanced-requires
balanced-requires c =
    (below _ 8 (columns 2 9 c.args.p.now) c.number-bank.ensures (search rules), below _ 1 (columns 10 10 c.args.p.now) c.number-digit.ensures (search rules))

pub returns : goal.returns
returns c =
    let blank_first : leads c.args.p.now ≡ true = sym c.leads.ensures ∙ need_ok _ _ _ _ c.need.ensures c.in_ok-need.was in
    let nine : digits (columns 2 10 c.args.p.now) ≡ true = need_ok _ _ _ _ c.all_digits.ensures c.in_ok-all_digits.was in
    rw (blank_first, nine, ← digit_told c.balanced.result _ _ (columns 2 9 c.args.p.now) (columns 10 10 c.args.p.now) c.number-bank.ensures c.number-digit.ensures (search rules) (search rules) c.balanced.ensures)
    c.need-2.ensures
