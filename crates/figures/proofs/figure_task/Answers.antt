-- From D and d to all figures.
use Rattle.columns.proofs.Writes.{changed-on}
use Rattle.figures.proofs.Stages.{done_none, all-figured}
use Rattle.figures.proofs.figure_task.Goals as goal

pub figure_funcs-requires : goal.figure_funcs-requires
figure_funcs-requires c =
    let chain = c.clear_column.ensures in
    let entry = c.clear_column-2.ensures in
    (done_none c.requires.2 c.displacements.ensures.0 chain.0 chain.1 entry.0 entry.1).0

pub returns : goal.returns
returns c =
    let away = c.displacements.ensures in
    let chain = c.clear_column.ensures in
    let entry = c.clear_column-2.ensures in
    let all = c.figure_funcs.ensures in
    let d = changed-on away.1 (done_none c.requires.2 away.0 chain.0 chain.1 entry.0 entry.1).1 in
    all-figured _ (record { settled = c.requires.0; room = c.requires.1 }) (changed-on d all.1) all.0
