-- What follows from the definitions alone. Sheet has the top theorem on figures, Faithful the theorem on runs; the others lead to them.
--   Lists, Firsts, Search    laws of the list functions of the model, and of loops that look for the first refusal
--   Walks, Arrival           the computed searches are about walks of every length
--   Reading, Accepted, Links what acceptance says of a task
--   Lines, Places            the lines of a text are those of its task; the line that a refusal names, and that its place fits 16 bits
--   Decimal                  numbers in decimal
--   Figures, Between, Rules  each figure, within a function, between functions, and along a lead
--   Displacement             d over whole walks
--   Rows                     what rows 11 and 13 say of walks, for refused texts too
--   Frames, Window           the frames of a run are those of the plain stack, and where the stack stands; from here to Fair nothing is known of a
--                            sheet but the rules of specs/Sound
--   Blocks, Numbers          what moves between cache and memory keep
--   Clean, Pointer           the blocks from LP up to MT equal memory after every event of a run; what each move does to LP, in addresses
--   Contents                 cache and memory hold the numbers of the plain stack, between the halves of a preemption the memory alone
--   Occupancy                the occupancy is at most high
--   Potential                a step, and a preemption, moves at most what it is allowed and what the potential falls by
--   Fair                     the state of a task that runs and of one that waits; every event is fair, and so is every list of events
--   Lawful                   the figures of document 01 obey the rules
--   Before                   against the rule for d before request 4 no figure rises
--   Prices                   the price of a move with a start is a price; with start 0 and each 1 report and run are those of document 01
--   Sorting, Dearest         laws of the sorted list; the list of the dearest points is the first ten of the report's records in a strict order
--   Total                    the total of a report is the sum of the costs of all points
--   Agree                    sheets that agree at the points of a task have the same report, list, runs and bounds, and obey the same rules
--   Faithful                 demand 3, of every sheet that obeys the rules, of the sheet of every text that run accepts, and of the numbers that C is given
--   Cores                    the two cores leave the same after every event, and the lazy one moves no more; so do the two services
--   Once                     in blocks a run moves at most its spills and fills and once of each point at which it is preempted; the case of exactly one
--   Without                  the empty text in every service; no other text is a task of no functions
pub mod Lists
pub mod Firsts
pub mod Search
pub mod Walks
pub mod Arrival
pub mod Reading
pub mod Accepted
pub mod Links
pub mod Lines
pub mod Places
pub mod Decimal
pub mod Figures
pub mod Between
pub mod Displacement
pub mod Rules
pub mod Rows
pub mod Sheet
pub mod Frames
pub mod Blocks
pub mod Window
pub mod Clean
pub mod CleanStep
pub mod Pointer
pub mod Numbers
pub mod Contents
pub mod Occupancy
pub mod Potential
pub mod Fair
pub mod Lawful
pub mod Before
pub mod Prices
pub mod Formulas
pub mod Sorting
pub mod Dearest
pub mod Costs
pub mod Total
pub mod Agree
pub mod Faithful
pub mod Cores
pub mod Once
pub mod Without
