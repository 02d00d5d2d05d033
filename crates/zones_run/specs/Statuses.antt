-- The exit statuses of `zones`, as scripts rely on them.
use Rattle.std.specs.Prelude.{ℕ}

-- all is done and nothing was refused
abbrev pub status_done : ℕ
status_done = 0

-- a line or the end of the input was refused
abbrev pub status_refused : ℕ
status_refused = 1

-- the words are no form of the command line
abbrev pub status_usage : ℕ
status_usage = 2

-- a line is outside the grammar
abbrev pub status_grammar : ℕ
status_grammar = 3

-- the source failed
abbrev pub status_read_fault : ℕ
status_read_fault = 4

-- standard output or standard error failed
abbrev pub status_write_fault : ℕ
status_write_fault = 5

-- the disk failed
abbrev pub status_disk_fault : ℕ
status_disk_fault = 6

-- what is on the disk is no store
abbrev pub status_not_a_store : ℕ
status_not_a_store = 7

-- the input has too many lines, or a line has too many bytes
abbrev pub status_limit : ℕ
status_limit = 8

-- memory ran out
abbrev pub status_no_memory : ℕ
status_no_memory = 9
