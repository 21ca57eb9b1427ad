-- One name that opens every definition: an example that says `unfolding opened` computes.
use Rattle.model.specs.Basic as Basic
use Rattle.model.specs.Text as Text
use Rattle.model.specs.Task as Task
use Rattle.model.specs.Walk as Walk
use Rattle.model.specs.Core as Core
use Rattle.model.specs.Figures as Figures
use Rattle.model.specs.Sheet as Sheet
use Rattle.model.specs.Dearest as Dearest
use Rattle.model.specs.Refusal as Refusal
use Rattle.model.specs.Plain as Plain
use Rattle.model.specs.Run as Run
use Rattle.model.specs.Preemptions as Preemptions
use Rattle.model.specs.Services as Services

unfoldable pub opened : Unit {0}
unfolding Basic.first_of Basic.any Basic.select Basic.joined Basic.sum_of Basic.largest Basic.smallest Basic.count_from Basic.above_all Basic.lowest_from
    Basic.inserted Basic.sorted_onto
    Text.starts Text.digits Text.value Text.number_then Text.one_number Text.numbers_then Text.two_numbers Text.point_form Text.line_of Text.lines_from
    Task.func_line Task.read_line Task.read_end Task.read_from Walk.leads Walk.meets Walk.sources Walk.arrival Core.written Core.spilled Core.filled Core.reserve
    Core.free Core.ensure Core.load Core.store Core.save Core.resume Figures.reached Figures.uninitialised Figures.live Figures.dead
    Figures.need Figures.callees Figures.minimax Figures.shortest_by Figures.longest_to Figures.shortest_to Figures.longest Figures.shortest Figures.fill
    Figures.after_with Figures.high_from_with Figures.call_points Figures.over_calls Figures.entry_to Figures.entry_with Figures.high_with Figures.spill_with
    Figures.chain_to Figures.chain Figures.first_ensure Figures.kept_next Sheet.move_price Sheet.costed Sheet.once_of Sheet.records_in Sheet.records_of Sheet.decimal_to
    Sheet.decimal Sheet.line_text
    Sheet.head_text Sheet.point_text Sheet.total_of Sheet.total_text Sheet.func_text Sheet.report_with Dearest.dearer Dearest.dearest Dearest.dear_text Dearest.dearest_with
    Refusal.link_row Refusal.reach_row Refusal.load_row Refusal.call_row Refusal.first_point Refusal.task_rows Refusal.judged Refusal.work_row
    Refusal.price_row Refusal.judge Refusal.output_rows Refusal.run_rows Refusal.event_rows
    Plain.act Plain.events_of Plain.after_event Plain.answer_of Plain.plain_from Run.turn Run.ran_from Run.event_bound Run.allowed_from
    Preemptions.preempted_at Preemptions.preemptions_from
    Services.cleared Services.over Services.verdict_of Services.check_of Services.check_number Services.written_by
    Services.run_judged Services.run_with Services.exported
opened = tt
