use Rattle.git_repository.proofs.drafts.Draft.keep.Goals as goal

pub returns-in-Reference : goal.returns-in-Reference
returns-in-Reference g c = rw c.in-Reference.is c.keep_reference.ensures

pub returns-in-Unborn : goal.returns-in-Unborn
returns-in-Unborn g c = rw c.in-Unborn.is c.keep_unborn.ensures

pub returns-in-Object : goal.returns-in-Object
returns-in-Object g c = rw c.in-Object.is c.keep_object.ensures

pub returns-in-BoundaryLine : goal.returns-in-BoundaryLine
returns-in-BoundaryLine g c = rw c.in-BoundaryLine.is c.keep_boundary.ensures
