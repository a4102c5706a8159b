use Rattle.std.proofs.Common.{◌≡◌, ◌&&◌, nat_eq, sym, ap, ◌∙◌}
use Rattle.text.proofs.RowLaws.{length_rows}
use Rattle.view.specs.View.{sum_over}
use Rattle.view.specs.Table.{every_row, entries_due}
use Rattle.table_form.specs.WorkSections.{count_at}
use Rattle.table_form.proofs.ShapeLaws.{plain_by, numbers_by, taken_by, next_test, stop_test, due_decides, shape_wrong}
use Rattle.table_form.proofs.shape.shaped.Goals as goal
use Rattle.table_form.proofs.shape.shaped.Goals.{then-counted, else-counted, then-numbered, else-numbered, then-count-eq1, else-count-eq1}

pub taken-requires : goal.taken-requires
taken-requires c = rw (c.rows-batches.ensures, length_rows) c.in-Some.ensures.1.batchesfew

pub returns-then-taken-s : goal.returns-then-taken-s
returns-then-taken-s c =
    let t = c.args.table.now in
    let s = c.in-Some.s in
    let one : c.if-counted.value ≡ (plain_by t s && numbers_by t s) =
    elim c.if-counted.branch [
      | then-counted w ↦ next_test (sym c.counted.ensures ∙ w.if-counted.true) (w.value-is ∙ w.numbered.ensures ∙ ap (every_row _) c.rows-batches.ensures)
      | else-counted w ↦ stop_test _ (sym c.counted.ensures ∙ w.if-counted.false) (w.value-is ∙ c.counted.ensures)
    ] in
    let two : c.if-numbered.value ≡ (plain_by t s && numbers_by t s && nat_eq (count_at t 0) 1) =
    elim c.if-numbered.branch [
      | then-numbered w ↦ next_test (sym one ∙ w.if-numbered.true) (w.value-is ∙ ap (λ n. nat_eq n 1) w.count.ensures.0)
      | else-numbered w ↦ stop_test _ (sym one ∙ w.if-numbered.false) (w.value-is ∙ one)
    ] in
    let three : c.if-count-eq1.value ≡ (plain_by t s && numbers_by t s && nat_eq (count_at t 0) 1 && taken_by t s) =
    elim c.if-count-eq1.branch [
      | then-count-eq1 w ↦ next_test (sym two ∙ w.if-count-eq1.true) (w.value-is ∙ ap (λ n. nat_eq n s.entries) (w.taken.ensures ∙ ap (sum_over entries_due) c.rows-batches.ensures))
      | else-count-eq1 w ↦ stop_test _ (sym two ∙ w.if-count-eq1.false) (w.value-is ∙ two)
    ] in
    rw (c.due.ensures, c.rows-entries.ensures) (sym (due_decides t s c.in-Some.ensures.1 c.in-Some.ensures.0 (sym three ∙ c.if-taken-s.true)))

pub returns-else-taken-s : goal.returns-else-taken-s
returns-else-taken-s c =
    let t = c.args.table.now in
    let s = c.in-Some.s in
    let one : c.if-counted.value ≡ (plain_by t s && numbers_by t s) =
    elim c.if-counted.branch [
      | then-counted w ↦ next_test (sym c.counted.ensures ∙ w.if-counted.true) (w.value-is ∙ w.numbered.ensures ∙ ap (every_row _) c.rows-batches.ensures)
      | else-counted w ↦ stop_test _ (sym c.counted.ensures ∙ w.if-counted.false) (w.value-is ∙ c.counted.ensures)
    ] in
    let two : c.if-numbered.value ≡ (plain_by t s && numbers_by t s && nat_eq (count_at t 0) 1) =
    elim c.if-numbered.branch [
      | then-numbered w ↦ next_test (sym one ∙ w.if-numbered.true) (w.value-is ∙ ap (λ n. nat_eq n 1) w.count.ensures.0)
      | else-numbered w ↦ stop_test _ (sym one ∙ w.if-numbered.false) (w.value-is ∙ one)
    ] in
    let three : c.if-count-eq1.value ≡ (plain_by t s && numbers_by t s && nat_eq (count_at t 0) 1 && taken_by t s) =
    elim c.if-count-eq1.branch [
      | then-count-eq1 w ↦ next_test (sym two ∙ w.if-count-eq1.true) (w.value-is ∙ ap (λ n. nat_eq n s.entries) (w.taken.ensures ∙ ap (sum_over entries_due) c.rows-batches.ensures))
      | else-count-eq1 w ↦ stop_test _ (sym two ∙ w.if-count-eq1.false) (w.value-is ∙ two)
    ] in
    c.if-taken-s.false ∙ sym (shape_wrong t s c.in-Some.ensures.1 (sym three ∙ c.if-taken-s.false))
