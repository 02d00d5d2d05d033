use denote.Param.Send.{sendable}
use Rattle.zone_threads.proofs.end.work_all.Goals as goal

-- the closure may go to other threads, since what it captures may
pub map_indices-done-requires-after_bounds : goal.map_indices-done-requires-after_bounds
map_indices-done-requires-after_bounds g c κs within i near =
    let b = c.type_bounds in (
      c.requires.ready,
      (
        c.requires.turn,
        (
          near,
          (
            c.requires.scripts,
            (
              search sendable,
              search sendable,
              search sendable,
              search sendable,
              search sendable,
              search sendable,
              search sendable,
              search sendable,
              search sendable,
              record { shared = b.sync-M.shared },
              record { shared = b.sync-J.shared },
              record { shared = b.sync-N.shared },
              record { shared = b.sync-K.shared },
              record { shared = b.sync-R.shared },
              record { shared = b.sync-G.shared },
              record { shared = b.sync-M-Line.shared },
            ),
          ),
        ),
      ),
    )
