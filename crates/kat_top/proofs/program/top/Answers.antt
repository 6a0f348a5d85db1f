use Rattle.kat_top.proofs.Asked.{reads}
use Rattle.kat_top.proofs.Causes.{causes, keeps}
use Rattle.kat_top.proofs.Owed.{complete}
use Rattle.kat_top.proofs.Rows.{statuses}
use Rattle.kat_top.proofs.program.top.Goals as goal

pub returns-clause-complete : goal.returns-clause-complete
returns-clause-complete g c = complete c.file_laws.ensures _ _ _ _ _ _ c.answered.ensures

pub returns-clause-statuses : goal.returns-clause-statuses
returns-clause-statuses g c = statuses c.file_laws.ensures _ _ _ _ _ _ c.answered.ensures

pub returns-clause-causes : goal.returns-clause-causes
returns-clause-causes g c = causes _ _ _ _ _ _ c.answered.ensures

pub returns-clause-kept : goal.returns-clause-kept
returns-clause-kept g c = keeps _ _ _ _ _ _ c.answered.ensures

pub returns-clause-reads : goal.returns-clause-reads
returns-clause-reads g c = reads _ _ _ _ _ _ c.answered.ensures
