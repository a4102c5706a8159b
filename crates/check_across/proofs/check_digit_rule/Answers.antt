use Rattle.std.proofs.Common.{◌≡◌, true, rules}
use Rattle.text.specs.Decimal.{digits}
use Rattle.layout.specs.Fields.{entry, part}
use Rattle.check_digit.proofs.GroupLaws.{digit_told, below}
use Rattle.check_alone.proofs.Laws.{need_ok}
use Rattle.check_across.proofs.Laws.{bank_long}
use Rattle.check_across.proofs.check_digit_rule.Goals as goal

pub balanced-requires : goal.balanced-requires
balanced-requires c =
    (below _ 8 (part entry 3 c.args.rec.now) c.entry_bank.ensures (bank_long c.args.rec.now (search rules)), below _ 1 c.args.p.now c.number-digit.ensures c.requires)

pub returns : goal.returns
returns c =
    let one : digits c.args.p.now ≡ true = need_ok _ _ _ _ c.all_digits.ensures c.in_ok-all_digits.was in
    rw (one, ← digit_told c.balanced.result _ _ (part entry 3 c.args.rec.now) c.args.p.now c.entry_bank.ensures c.number-digit.ensures (bank_long c.args.rec.now (search rules)) c.requires c.balanced.ensures)
    c.need.ensures
