use Rattle.std.proofs.Common.{sym}
use Rattle.sail_kinds.specs.Builtin.{rows}
use Rattle.sail_kinds.proofs.Tables.{absent}
use Rattle.sail_kinds.proofs.builtins.builtin.Goals as goal

pub returns-in_default : goal.returns-in_default
returns-in_default c =
    let is = c.in_default in
    sym (absent c.args.name.now rows (
      is.not-unit,
      (
        (
          is.not-bool,
          (
            (
              is.not-bit,
              (
                (
                  is.not-bits,
                  (
                    (
                      is.not-bitvector,
                      (
                        (
                          is.not-int,
                          (
                            (
                              is.not-nat,
                              (
                                (
                                  is.not-range,
                                  ((is.not-string, ((is.not-list, ((is.not-vector, (tt, tt)), tt)), tt)), tt),
                                ),
                                tt,
                              ),
                            ),
                            tt,
                          ),
                        ),
                        tt,
                      ),
                    ),
                    tt,
                  ),
                ),
                tt,
              ),
            ),
            tt,
          ),
        ),
        tt,
      ),
    ))
