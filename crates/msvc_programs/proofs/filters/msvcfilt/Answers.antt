use Rattle.msvc_programs.proofs.filters.msvcfilt.Goals as goal

pub returns : goal.returns
returns g c = (
  c.filter_arguments-done.result,
  c.end.ensures.status,
  c.filter_arguments-done.ensures.text,
  c.end.ensures.line,
  c.filter_arguments-done.ensures.sets_failed,
)
