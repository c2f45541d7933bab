pub mod WorkedHistories
pub mod Random1To10
pub mod Random11To20
pub mod Random21To30
pub mod Random31To40
