use Rattle.std.proofs.Common.{◌<◌, ◌≤◌, get_or, rules, tests}
use Rattle.std.proofs.lemmas.Iterator.{IsFirst-from_position, YieldsList-from_slice}
use Rattle.funds.proofs.AskLaws.{told_at, none_told}
use Rattle.funds.proofs.runs_out.Goals as goal

pub returns-in-Some : goal.returns-in-Some
returns-in-Some c =
    let at = IsFirst-from_position _ _ _ (λ r. c.args.limit < get_or r 1 0) (λ r. get_or r 1 0 ≤ c.args.limit) c.in-Some.ensures.ran (YieldsList-from_slice c.as_chunks.result.0.now cc) (λ x q k. search (rules, tests)) (λ x q k. search (rules, tests)) in
    told_at c.args.limit c.args.rows.now c.as_chunks.result.0.now c.as_chunks.ensures.front c.as_chunks.ensures.front_len c.in-Some.k at

pub returns-in-None : goal.returns-in-None
returns-in-None c =
    let at = IsFirst-from_position _ _ _ (λ r. c.args.limit < get_or r 1 0) (λ r. get_or r 1 0 ≤ c.args.limit) c.in-None.ensures.ran (YieldsList-from_slice c.as_chunks.result.0.now cc) (λ x q k. search (rules, tests)) (λ x q k. search (rules, tests)) in
    none_told c.args.limit c.args.rows.now c.as_chunks.result.0.now c.as_chunks.ensures.front c.as_chunks.ensures.front_len at
