use Rattle.msvc_symbol.proofs.steps.declare_named.Goals as goal

pub returns-clause-declared : goal.returns-clause-declared
returns-clause-declared g c =
    let read = c.in_ok-symbol.ensures.read in
    let printed = c.in_ok-place.ensures in
    record {
      declared = record {
        tree = _;
        parsed = read.parsed;
        nodes = read.within;
        takes = read.takes;
        printed = printed.printed.0;
        bytes = printed.printed.1;
      };
      name = printed.named;
    }
