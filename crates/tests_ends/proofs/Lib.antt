pub mod WorkedEnds
