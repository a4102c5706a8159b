use Rattle.std.proofs.Common.{is_ok, rules}
use Rattle.text.specs.Decimal.{digits}
use Rattle.text.proofs.DecimalLaws.{and_both}
use Rattle.layout.specs.Fields.{entry, part}
use Rattle.check_digit.proofs.GroupLaws.{digit_told, below}
use Rattle.check_alone.specs.Own.{bank}
use Rattle.check_across.proofs.Laws.{bank_long}
use Rattle.check_quick.proofs.routing_right.Goals as goal

pub balanced-requires : goal.balanced-requires
balanced-requires c =
    (below _ 8 (part entry 3 c.args.rec.now) c.requires (bank_long c.args.rec.now (search rules)), below _ 1 (part entry 4 c.args.rec.now) c.number.ensures (search rules))

pub returns-then-is_ok-digits : goal.returns-then-is_ok-digits
returns-then-is_ok-digits c =
    let nine = and_both (is_ok (bank (part entry 3 c.args.rec.now))) (digits (part entry 4 c.args.rec.now)) (rw (c.is_ok.ensures.value, c.bank.ensures, c.digits.ensures) at c.if-is_ok-digits.true) in
    rw (digit_told c.balanced.result _ _ (part entry 3 c.args.rec.now) (part entry 4 c.args.rec.now) c.requires c.number.ensures (bank_long c.args.rec.now (search rules)) (search rules) c.balanced.ensures, nine.0, nine.1)
    (search rules)
